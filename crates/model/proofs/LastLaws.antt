-- The last command that says something of a thing decides whether it is mapped: `now` of History.antt and `Last` of Paragraph.antt say the same.
-- Proved once, for whatever is said and whatever commands say it.
-- Assumes nothing.
use Rattle.std.specs.Prelude.{None, Some}
use mathlib.Core.Path.{◌≡◌, refl, ap, ◌∙◌}
use mathlib.Core.Bool.{true}
use mathlib.Core.List.{List, [], ◌∷◌, ◌++◌}
use mathlib.Core.Logic.{inl, inr, ⊎_elim, ◌↔◌}
use Rattle.model.specs.declared.Command.{Command}
use Rattle.model.specs.History.{Says, maps_it, unmaps_it, silent, after, now}
use Rattle.model.specs.Paragraph.{◌∈◌, Last}
use Rattle.model.proofs.Cases.{never}

module _ {A : Type 0} (says : Command → Says A) (Is : Command → Type 0) where
  -- commands of which Is holds, and no others, say something
  pub record Speak : Type 0 where
    pub said : (y : Command) (a : A) → says y ≡ maps_it a → Is y
    pub unsaid : (y : Command) → says y ≡ unmaps_it → Is y
    pub spoken : (y : Command) → Is y → says y ≡ silent → ⊥

  module _ (speak : Speak) where
    quiet : (y : Command) → (Is y → ⊥) → says y ≡ silent
    quiet y n = go (says y) refl
      where
        go : (s : Says A) → says y ≡ s → says y ≡ silent
        go (maps_it a) e = absurd (n (speak.said y a e))
        go unmaps_it e = absurd (n (speak.unsaid y e))
        go silent e = e

    last_now : (later before : List Command) (x : Command) (a : A) → ((y : Command) → Is y → y ∈ later → ⊥) → says x ≡ maps_it a → now says (later ++ x ∷ before) ≡ Some a
    last_now [] before x a n e = rw e
    last_now (y ∷ later) before x a n e =
        rw (quiet y (λ i. n y i (inl refl))) (last_now later before x a (λ z i m. n z i (inr m)) e)

    abbrev Found : List Command → A → Type 0
    Found h a = (x : Command) × (says x ≡ maps_it a) × Last Is h x

    now_last : (h : List Command) (a : A) → now says h ≡ Some a → Found h a
    now_last [] a q = never true refl (cc)
    now_last (x ∷ h) a q = go (says x) refl q (now_last h a)
      where
        go : (s : Says A) → says x ≡ s → after s (now says h) ≡ Some a → (now says h ≡ Some a → Found h a) → Found (x ∷ h) a
        go (maps_it b) e q ih =
            let same : b ≡ a = cc in
            (x, e ∙ ap maps_it same, record { later = []; before = h; there = refl; is_one = speak.said x b e; none_later = λ y i m. m })
        go unmaps_it e q ih = never true refl (cc)
        go silent e q ih =
            let (y, s, l) = ih q in (
              y,
              s,
              record {
                later = x ∷ l.later;
                before = l.before;
                there = ap (λ r. x ∷ r) l.there;
                is_one = l.is_one;
                none_later = λ z i m. ⊎_elim (λ p. speak.spoken z i (rw p e)) (λ n. l.none_later z i n) m;
              },
            )

    -- where `it a` is the command that maps to a, and the only one
    pub last_iff : (it : A → Command) → ((a : A) → says (it a) ≡ maps_it a) → ((x : Command) (a : A) → says x ≡ maps_it a → x ≡ it a) →
        (h : List Command) (a : A) → Last Is h (it a) ↔ (now says h ≡ Some a)
    last_iff it maps only h a = (
      λ l. rw l.there (last_now l.later l.before (it a) a l.none_later (maps a)),
      λ q. let (x, s, l) = now_last h a q in rw (only x a s) at l,
    )

    -- where none of the commands is such a one, nothing is there
    pub none_now : (h : List Command) → ((y : Command) → Is y → y ∈ h → ⊥) → now says h ≡ None
    none_now [] n = refl
    none_now (x ∷ h) n = rw (quiet x (λ i. n x i (inl refl))) (none_now h (λ y i m. n y i (inr m)))

    -- and, where no command unmaps it, the other way round
    pub now_none : ((y : Command) → says y ≡ unmaps_it → ⊥) → (h : List Command) → now says h ≡ None → (y : Command) → Is y → y ∈ h → ⊥
    now_none keeps [] q y i m = m
    now_none keeps (x ∷ h) q y i m = go (says x) refl q (λ r n. now_none keeps h r y i n)
      where
        go : (s : Says A) → says x ≡ s → after s (now says h) ≡ None → (now says h ≡ None → y ∈ h → ⊥) → ⊥
        go (maps_it b) e q ih = never true refl (cc)
        go unmaps_it e q ih = keeps x e
        go silent e q ih = ⊎_elim (λ p. speak.spoken y i (rw p e)) (ih q) m
