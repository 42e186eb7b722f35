-- Document 02, A3 and A4: the profile, chosen at configuration.
-- Assumes nothing.
use Rattle.std.specs.Prelude.{ℕ, Bool, true, not, leb, eqb, if◌then◌else◌}
use Rattle.model.specs.declared.ItsConfig.{ItsConfig}

-- The profiles.
pub data Profile : Type 0 where
  -- document 01's behaviour
  base : Profile
  -- with A3's three changes (Step.check and Step.cleared have the first two, Queue.held the third) and A4's Retry and Stalled (Writing.to_cwriter,
  -- Writing.to_cbaser, Queue.stall, Queue.held, Register.creadr_value)
  strict : Profile

-- 0 is base and 1 strict; any other number is refused
abbrev pub is_profile : ℕ → Bool
is_profile n = leb n 1

-- the number of the strict profile
abbrev pub is_strict : ℕ → Bool
is_strict n = eqb n 1

-- the profile of a configuration. (A number that is neither is never accepted, and a unit that has it by hand answers 1.)
abbrev pub profile_of : ItsConfig → Profile
profile_of k = if is_strict k.profile then strict else base

-- "In force" gains a valid MAPD of the device as an ending: whether a MAPD, valid or not, ends the pairs of its device
abbrev pub mapd_ends : Profile → Bool → Bool
mapd_ends base valid = not valid
mapd_ends strict valid = true
