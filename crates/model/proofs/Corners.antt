-- 01's corners P1 to P11, 02's numbers of refused commands and its strict profile hold of the definitions: antt computes each table.
-- Assumes nothing.
use mathlib.Core.Path.{◌≡◌, refl}
use mathlib.Core.Bool.{true}
use Rattle.model.specs.Corners.{corners, of_mapti, of_mapi, of_movi, of_others, eight_stays, all_hold}
use Rattle.model.specs.Strict.{of_strict}
use Rattle.model.proofs.Computed.{shown}

pub all_corners : all_hold corners ≡ true
unfolding shown corners
all_corners = refl

pub told_of_mapti : all_hold of_mapti ≡ true
unfolding shown of_mapti
told_of_mapti = refl

pub told_of_mapi : all_hold of_mapi ≡ true
unfolding shown of_mapi
told_of_mapi = refl

pub told_of_movi : all_hold of_movi ≡ true
unfolding shown of_movi
told_of_movi = refl

pub told_of_others : all_hold of_others ≡ true
unfolding shown of_others
told_of_others = refl

pub eight_stays_lem : all_hold eight_stays ≡ true
unfolding shown eight_stays
eight_stays_lem = refl

pub strict_corners : all_hold of_strict ≡ true
unfolding shown of_strict
strict_corners = refl
