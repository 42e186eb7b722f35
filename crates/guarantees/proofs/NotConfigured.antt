-- A profile that there is not is not configured. (In a file of its own, so that a wrong version of it leaves the files of other wrong versions readable.)
-- Assumes nothing.
use Rattle.std.specs.Prelude.{Err}
use Prim.Native.Nat.{◌<◌}
use mathlib.Core.Path.{◌≡◌}
use borrow.Author.Tests.{lt-leb}
use Rattle.model.specs.declared.ItsConfig.{ItsConfig}
use Rattle.model.specs.declared.Refusal.TheVariants.{Unsound}
use Rattle.model.specs.Config.{sizes_in01, sound_config}
use Rattle.model.specs.Entry.{configure}
use Rattle.model.proofs.Profiles.{off_and}

pub not_configured : (k : ItsConfig) → 1 < k.profile → (configure k).verdict ≡ Err Unsound
unfolding configure sound_config
not_configured k above = rw (lt-leb k.profile 1 above, off_and (sizes_in01 k))
