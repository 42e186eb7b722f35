-- THE THEOREM of the program: at the end of every trace, what is printed is what the commands carried out put in force.
-- Assumes nothing.
use Prim.Native.Nat.{ℕ, zero, suc, ◌+◌}
use mathlib.Core.Path.{◌≡◌, refl, ap, ◌∙◌}
use mathlib.Core.List.{List, [], ◌∷◌}
use mathlib.Core.Logic.{inl, inr}
use lib.ListN.{length, drop}
use Rattle.model.specs.declared.ItsConfig.{ItsConfig}
use Rattle.model.specs.declared.ItsState.{ItsState}
use Rattle.model.specs.Config.{sizes_in01, sound_config, answers_no_unit}
use Rattle.model.specs.Entry.{configure, write}
use Rattle.model.specs.Trace.{Record, CF, GM, RD, WR, TR, Parsed, whole, broken, parse, Running, at_start, next, lent_row, write_of}
use Rattle.model.proofs.Cases.{cases}
use Rattle.its.specs.Promises.{Writes}
use Rattle.guarantees.specs.MappingsInForce.{begins, a_write}
use Rattle.guarantees.proofs.Unsound.{no_unit_answers_1}
use Rattle.mappings.specs.Mappings.{mappings_of, devices_of, mapping_at, mapped_at}
use Rattle.mappings.proofs.InForce.{listed_in_force}
use Rattle.inforce.specs.Shown.{unit_lines, on_with, walk, nothing_more, unit_at_end}
use Rattle.inforce.specs.AtEnd.{Standing, Told}

-- a record leads from such a unit to such a unit
configured : (k : ItsConfig) → Standing (configure k).unit
unfolding configure
configured k =
    cases (sound_config k)
    (λ t. inr (record { config = k; history = []; led = begins (configure k) (record { answer = refl; numbers = refl }) (rw t) }))
    (λ f. inl (rw f))

written : (s : Running) (offset width value : ℕ) → Standing s.unit → Standing (write_of s offset width value).written.unit
unfolding write_of
written s offset width value h = on_unit h
  where
    wrote : Writes s.window lent_row s.unit offset width value (write s.window lent_row s.unit offset width value).written (write s.window lent_row s.unit offset width value).row
    wrote = record { answer = refl; row_is = refl; numbers = refl }

    on_unit : Standing s.unit → Standing (write s.window lent_row s.unit offset width value).written.unit
    on_unit (inl e) = inl (ap (λ r. r.unit) ((no_unit_answers_1 s.unit e).writes s.window lent_row offset width value _ _ wrote).0 ∙ e)
    on_unit (inr l) = inr (record { config = l.config; history = _; led = a_write l.led s.window lent_row offset width value _ _ wrote })

carried : (s : Running) (r : Record) → Standing s.unit → Standing (next s r).unit
carried s (CF k) h = configured k
carried s (GM w) h = h
carried s (RD offset width) h = h
carried s (WR offset width value) h = written s offset width value h
carried s (TR d e) h = h

on : (p : Parsed) (s : Running) (f : Record → ℕ → ItsState) → Standing s.unit → ((r : Record) (n : ℕ) → Standing (f r n)) → Standing (on_with (λ s. s.unit) nothing_more p s f)
on broken s f h g = h
on (whole r n) s f h g = g r n

walked : (k at : ℕ) (s : Running) (l : List ℕ) → Standing s.unit → Standing (walk (λ s. s.unit) nothing_more k at s l)
walked zero at s l h = h
walked (suc k) at s [] h = h
walked (suc k) at s (b ∷ l) h =
    on (parse (b ∷ l)) s (λ r n. walk (λ s. s.unit) nothing_more k (at + n) (next s r) (drop n (b ∷ l))) h (λ r n. walked k (at + n) (next s r) (drop n (b ∷ l)) (carried s r h))

pub standing : (trace : List ℕ) → Standing (unit_at_end trace)
unfolding unit_at_end
standing trace = walked (length trace) 0 at_start trace (inl refl)

-- where none was configured no line is printed: antt computes it
nothing : unit_lines answers_no_unit ≡ []
unfolding unit_lines mappings_of devices_of mapping_at mapped_at sizes_in01 sound_config
nothing = refl

told : (u : ItsState) → Standing u → Told u
told u (inl e) = inl (ap unit_lines e ∙ nothing)
told u (inr l) = inr (l, listed_in_force l.led)

pub told_at_end : (trace : List ℕ) → Told (unit_at_end trace)
told_at_end trace = told (unit_at_end trace) (standing trace)
