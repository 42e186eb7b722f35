-- A run of the queue: it carries out, one after the other, the commands that the window shows from CREADR on, as many as it says were done, each
-- accepted by the unit that met it; CREADR moves past exactly those, and nothing else of registers and configuration changes. Where it stopped,
-- the command on which CREADR stands is refused.
-- Assumes nothing.
use Rattle.std.specs.Prelude.{None, Option, Some}
use Prim.Native.Nat.{ℕ, zero, suc, ◌≤◌, ◌<◌}
use native.Mathlib.Omega.{arith}
use mathlib.Core.Path.{◌≡◌, refl, sym, ap, ap₂, ◌∙◌}
use mathlib.Core.Bool.{true}
use mathlib.Core.List.{List, [], ◌∷◌, ◌++◌, append-nil, append_assoc}
use lib.ListN.{length, length-append}
use Rattle.model.specs.declared.ItsState.{ItsState}
use Rattle.model.specs.declared.ItsAction.{ItsAction}
use Rattle.model.specs.declared.Command.{Command}
use Rattle.model.specs.Choose.{list_of}
use Rattle.model.specs.Queue.{Window, Stands, Turn, passes, stays, turn, carry_out, Stop, Ran, ended, go_on, run}
use Rattle.model.specs.Step.{actions_of}
use Rattle.model.specs.With.{with_reader}
use Rattle.model.specs.Passed.{ring_offset, commands_passed, CarriedOut, nothing, one_more}
use Rattle.model.proofs.Cases.{never}
use Rattle.model.proofs.Ring.{past_below, offset_here, offset_next}
use Rattle.model.proofs.Turns.{passing, carried_registers, carried_config, passed_first}

-- commands carried out, and then more
pub chain : {u v t : ItsState} {g h : List Command} {first later : List ItsAction} → CarriedOut u g first v → CarriedOut v h later t →
    CarriedOut u (h ++ g) (first ++ later) t
chain {first = first} a nothing = rw (append-nil first) a
chain {first = first} a (one_more {v = v} {handed = handed} b x ok) = rw (← (append_assoc first handed (actions_of v x))) (one_more (chain a b) x ok)

module _ (w : Window) where
  pub record RunKeeps (n : ℕ) (u : ItsState) (r : Ran) : Type 0 where
    pub config : r.unit.config ≡ u.config
    pub registers : r.unit.registers ≡ with_reader u.registers (ring_offset u.registers r.done)
    pub at_most : r.done ≤ n
    pub all : r.stopped ≡ None → r.done ≡ n
    pub shown : length (commands_passed w u.registers r.done) ≡ r.done
    pub carried : CarriedOut u (commands_passed w u.registers r.done) r.actions r.unit
    pub fewer : (s : Stop) → r.stopped ≡ Some s → r.done < n
    pub refused : (s : Stop) → r.stopped ≡ Some s → turn w r.unit ≡ stays s.refusal s.opcode

  -- the run ends here: all n commands are done, or the command at CREADR is refused
  ended_keeps : (n : ℕ) (u : ItsState) (o : Option Stop) → Stands u → (o ≡ None → 0 ≡ n) → ((s : Stop) → o ≡ Some s → 0 < n) →
      ((s : Stop) → o ≡ Some s → turn w u ≡ stays s.refusal s.opcode) → RunKeeps n u (ended u o)
  ended_keeps n u o b all fewer refused =
      record {
        config = refl;
        registers = ap (with_reader u.registers) (sym (offset_here u.registers b));
        at_most = omega arith;
        all = all;
        shown = refl;
        carried = nothing;
        fewer = fewer;
        refused = refused;
      }

  -- one command more in front
  step : (n : ℕ) (u : ItsState) (t : Turn) → turn w u ≡ t → Stands u → ((v : ItsState) → Stands v → RunKeeps n v (run w n v)) →
      RunKeeps (suc n) u (go_on u t (run w n))
  step n u (passes x) t b rest =
      let v = carry_out u x in
      let p = passing u x w b t in
      let past = carried_registers u x p.accepted in
      let k = rest v (rw past (past_below u.registers)) in
      let d = (run w n v).done in
      let first : commands_passed w u.registers (suc d) ≡ commands_passed w v.registers d ++ (x ∷ []) =
      passed_first w u.registers d ∙ ap₂ (λ l o. commands_passed w l d ++ list_of o) (sym past) p.shown in
      record {
        config = k.config ∙ carried_config u x p.accepted;
        registers = k.registers ∙ (ap (λ l. with_reader l (ring_offset l d)) past ∙ ap (with_reader u.registers) (offset_next u.registers d));
        at_most = omega (arith, k.at_most);
        all = λ s. ap suc (k.all s);
        shown = rw first (length-append (commands_passed w v.registers d) (x ∷ []) ∙ omega (arith, k.shown));
        carried = rw first (chain (one_more nothing x p.accepted) k.carried);
        fewer = λ s h. omega (arith, k.fewer s h);
        refused = k.refused;
      }
  step n u (stays r opcode) t b rest =
      ended_keeps (suc n) u (Some (record { refusal = r; opcode = opcode })) b (λ s. never true refl (cc)) (λ s h. omega arith)
      (λ s h. let same : record { refusal = r; opcode = opcode } ≡ s = cc in t ∙ ap (λ z. stays z.refusal z.opcode) same)

  pub run_keeps : (n : ℕ) (u : ItsState) → Stands u → RunKeeps n u (run w n u)
  run_keeps zero u b = ended_keeps zero u None b (λ s. refl) (λ s h. never true refl (cc)) (λ s h. never true refl (cc))
  run_keeps (suc n) u b = step n u (turn w u) refl b (run_keeps n)
