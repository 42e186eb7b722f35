-- The law of the run, for both texts of the unit: a run goes one command at a time, and between two commands what was done and what is left to do
-- give the same end as the whole.
-- Assumes nothing.
use Rattle.std.specs.Prelude.{if◌then◌else◌, Err, None, Ok, Option, Some}
use Prim.Native.Nat.{ℕ, zero, suc, ◌+◌, ◌-◌, ◌≤◌, ◌<◌}
use native.Mathlib.Omega.{arith}
use native.Mathlib.Nat.{zero-add, add-zero}
use mathlib.Core.Path.{◌≡◌, refl, sym, ap, ap₂, ◌∙◌}
use mathlib.Core.Bool.{Bool, true, false}
use mathlib.Core.List.{List, [], ◌∷◌, ◌++◌, append-nil, append_assoc}
use lib.ListN.{length, length-append}
use Rattle.model.specs.declared.ItsState.{ItsState}
use Rattle.model.specs.declared.ItsAction.{ItsAction}
use Rattle.model.specs.declared.Delivery.{Delivery}
use Rattle.model.specs.declared.Command.{Command}
use Rattle.model.specs.declared.Command.TheVariants.{Mapd, Mapc, Mapti, Mapi, Movi, Int, Clear, Discard, Inv, Invall, Sync}
use Rattle.model.specs.declared.Refusal.{Refusal}
use Rattle.model.specs.Answer.{Verdict}
use Rattle.model.specs.Choose.{when_found, list_of}
use Rattle.model.specs.Step.{delivery_in, check, accepts, effect, action_to, actions_on, actions_of, is_accepted, stepped, executed_by, executed}
use Rattle.model.specs.Queue.{Window, Stands, past_command, Turn, passes, stays, judged, turn, carry_out, Stop, Ran, ended, go_on, run}
use Rattle.model.specs.With.{with_registers}
use Rattle.model.specs.Config.{sound_config, sound_unit}
use Rattle.model.proofs.Cases.{cases, never, and_right}
use Rattle.model.proofs.Effects.{rest_effect}
use Rattle.model.proofs.Ring.{reader_below, past_below}

-- A command hands over one action at most.
one_listed : (pending : Bool) (o : Option Delivery) → length (list_of (when_found o (λ a. Some (action_to pending a)))) ≤ 1
one_listed pending None = omega arith
one_listed pending (Some a) = omega arith

pub one_handed : (u : ItsState) (x : Command) → length (actions_of u x) ≤ 1
unfolding actions_on
one_handed u (Mapd d bits valid) = omega arith
one_handed u (Mapc c p valid) = omega arith
one_handed u (Mapti d e l c) = omega arith
one_handed u (Mapi d e c) = omega arith
one_handed u (Movi d e c) = omega arith
one_handed u (Int d e) = one_listed true (delivery_in u d e)
one_handed u (Clear d e) = one_listed false (delivery_in u d e)
one_handed u (Discard d e) = omega arith
one_handed u (Inv d e) = omega arith
one_handed u (Invall c) = omega arith
one_handed u Sync = omega arith

-- What carrying out a command comes to tells its turn, and what is left of it.
module _ (u : ItsState) (x : Command) (opcode : ℕ) where
  refused_by : (y : Verdict) (l : List ItsAction) {why : Refusal} → executed_by y l ≡ Err why →
      (judged y x opcode ≡ stays why opcode) × ((if is_accepted y then effect u x else u) ≡ u)
  refused_by (Ok _) [] e = never true refl (cc)
  refused_by (Ok _) (a ∷ l) e = never true refl (cc)
  refused_by (Err r) l {why} e = let same : r ≡ why = cc in (ap (λ n. stays n opcode) same, refl)

  pub told_refused : {why : Refusal} → executed u x ≡ Err why → (judged (check u x) x opcode ≡ stays why opcode) × (stepped u x ≡ u)
  unfolding executed stepped
  told_refused = refused_by (check u x) (actions_of u x)

  done_by_lem : (y : Verdict) (l : List ItsAction) → executed_by y l ≡ (Ok None) →
      (judged y x opcode ≡ passes x) × ((if is_accepted y then effect u x else u) ≡ effect u x) × (l ≡ [])
  done_by_lem (Ok _) [] e = (refl, refl, refl)
  done_by_lem (Ok _) (a ∷ l) e = never true refl (cc)
  done_by_lem (Err r) l e = never true refl (cc)

  pub told_done : executed u x ≡ (Ok None) → (judged (check u x) x opcode ≡ passes x) × (stepped u x ≡ effect u x) × (actions_of u x ≡ [])
  unfolding executed stepped
  told_done = done_by_lem (check u x) (actions_of u x)

  acted_by : (y : Verdict) (l : List ItsAction) {a : ItsAction} → length l ≤ 1 → executed_by y l ≡ Ok (Some a) →
      (judged y x opcode ≡ passes x) × ((if is_accepted y then effect u x else u) ≡ effect u x) × (l ≡ a ∷ [])
  acted_by (Ok _) [] h e = never true refl (cc)
  acted_by (Ok _) (b ∷ []) {a} h e = let same : b ≡ a = cc in (refl, refl, ap (λ n. n ∷ []) same)
  acted_by (Ok _) (b ∷ c ∷ l) h e = absurd (omega arith)
  acted_by (Err r) l h e = never true refl (cc)

  pub told_acted : {a : ItsAction} → executed u x ≡ Ok (Some a) →
      (judged (check u x) x opcode ≡ passes x) × (stepped u x ≡ effect u x) × (actions_of u x ≡ a ∷ [])
  unfolding executed stepped
  told_acted = acted_by (check u x) (actions_of u x) (one_handed u x)

-- CREADR stands in the queue of a sound unit; a command does not move it by itself, and past a command it stands there too.
pub sound_stands : (u : ItsState) → sound_unit u ≡ true → Stands u
sound_stands u s = reader_below u.registers (and_right (sound_config u.config) _ s)

stepped_registers : (u : ItsState) (x : Command) → (stepped u x).registers ≡ u.registers
unfolding stepped
stepped_registers u x = cases (accepts u x) (λ y. rw y (rest_effect u x y).1) (λ n. rw n refl)

pub stands_stepped : (u : ItsState) (x : Command) → Stands u → {v : ItsState} → v ≡ stepped u x → Stands v
stands_stepped u x s e = rw (e, stepped_registers u x) s

pub stands_past : (v : ItsState) {left : ItsState} → left ≡ with_registers v (past_command v.registers) → Stands left
stands_past v e = rw e (past_below v.registers)

pub stands_on : (u : ItsState) (x : Command) → Stands (carry_out u x)
unfolding carry_out
stands_on u x = past_below (effect u x).registers

module _ (w : Window) where
  -- what is left to do: nothing where the run stopped, else the commands that are left
  abbrev pub rest : ℕ → ItsState → Option Stop → Ran
  rest left u None = run w left u
  rest left u (Some s) = ended u (Some s)

  -- what was done, and then r
  abbrev pub joined : ℕ → List ItsAction → Ran → Ran
  joined done made r = record { unit = r.unit; done = done + r.done; actions = made ++ r.actions; stopped = r.stopped }

  -- Between two commands of the run of `count` commands from the unit u₀: u is the unit now, so many are left, so many were carried out, and made are
  -- their actions; stop says why the run stopped, if it did.
  pub record Going (count : ℕ) (u₀ u : ItsState) (left done : ℕ) (made : List ItsAction) (stop : Option Stop) : Type 0 where
    pub whole : run w count u₀ ≡ joined done made (rest left u stop)
    pub going : 0 < left → stop ≡ None
    pub stands : Stands u
    pub fits : done + left ≤ count
    pub room : length made + left ≤ count

  pub run_begins : (count : ℕ) (u : ItsState) → Stands u → Going count u u count 0 [] None
  run_begins count u h =
      record {
        whole = let r = run w count u in ap (λ d. record { unit = r.unit; done = d; actions = r.actions; stopped = r.stopped }) (sym (zero-add r.done));
        going = λ _. refl;
        stands = h;
        fits = omega arith;
        room = omega arith;
      }

  -- a command's turn is the first of those that are left
  opened : (u : ItsState) (n : ℕ) → 0 < n → run w n u ≡ go_on u (turn w u) (run w (n - 1))
  opened u zero h = absurd (omega arith)
  opened u (suc n) h = let e : suc n - 1 ≡ n = omega arith in ap (λ m. go_on u (turn w u) (run w m)) (sym e)

  module _ {count : ℕ} {u₀ u : ItsState} {left done : ℕ} {made : List ItsAction} {stop : Option Stop} (g : Going count u₀ u left done made stop) where
    module _ (more : 0 < left) where
      still : {y : Turn} → turn w u ≡ y → rest left u stop ≡ go_on u y (run w (left - 1))
      still e = ap (rest left u) (g.going more) ∙ (opened u left more ∙ ap (λ y. go_on u y (run w (left - 1))) e)

      -- a command that passes
      pub run_passes : (x : Command) → turn w u ≡ passes x → Going count u₀ (carry_out u x) (left - 1) (done + 1) (made ++ actions_of u x) None
      run_passes x e =
          let r = run w (left - 1) (carry_out u x) in
          let d : done + suc r.done ≡ done + 1 + r.done = omega arith in
          let one = one_handed u x in
          record {
            whole =
                g.whole
                ∙ (ap (joined done made) (still e)
                ∙ ap₂ (λ n l. record { unit = r.unit; done = n; actions = l; stopped = r.stopped }) d (sym (append_assoc made (actions_of u x) r.actions)));
            going = λ _. refl;
            stands = stands_on u x;
            fits = omega (arith, g.fits);
            room = omega (arith, g.room, length-append made (actions_of u x));
          }

      -- one that is refused
      pub run_stays : (s : Stop) → turn w u ≡ stays s.refusal s.opcode → Going count u₀ u 0 done made (Some s)
      run_stays s e =
          record {
            whole = g.whole ∙ ap (joined done made) (still e);
            going = λ h. absurd (omega arith);
            stands = g.stands;
            fits = omega (arith, g.fits);
            room = omega (arith, g.room);
          }

    -- none is left
    ends_by : (o : Option Stop) → run w count u₀ ≡ joined done made (rest 0 u o) → run w count u₀ ≡ record { unit = u; done = done; actions = made; stopped = o }
    ends_by None e = e ∙ ap₂ (λ n l. record { unit = u; done = n; actions = l; stopped = None }) (add-zero done) (append-nil made)
    ends_by (Some s) e = e ∙ ap₂ (λ n l. record { unit = u; done = n; actions = l; stopped = Some s }) (add-zero done) (append-nil made)

    pub run_ends : left ≡ 0 → run w count u₀ ≡ record { unit = u; done = done; actions = made; stopped = stop }
    run_ends z = ends_by stop (g.whole ∙ ap (λ n. joined done made (rest n u stop)) z)
