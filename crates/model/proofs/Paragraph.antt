-- "A pair is in force if ..": the paragraph's words (specs/Paragraph.antt) say what History.antt computes command by command.
-- Assumes nothing.
use Rattle.std.specs.Prelude.{None, Option, Some}
use Prim.Native.Nat.{ℕ}
use mathlib.Core.Path.{◌≡◌, refl, sym, ap, ap₂, ◌∙◌}
use mathlib.Core.Bool.{Bool, true, false}
use mathlib.Core.List.{List, [], ◌∷◌, ◌++◌}
use mathlib.Core.Logic.{◌⊎◌, inl, inr, ⊎_elim, ◌↔◌}
use borrow.Author.Tests.{eq-eqb}
use Rattle.model.specs.declared.ItsDeviceId.{ItsDeviceId}
use Rattle.model.specs.declared.EventId.{EventId}
use Rattle.model.specs.declared.CollectionId.{CollectionId}
use Rattle.model.specs.declared.LpiId.{LpiId}
use Rattle.model.specs.declared.GicVcpuId.{GicVcpuId}
use Rattle.model.specs.declared.Command.{Command}
use Rattle.model.specs.declared.Command.TheVariants.{Mapd, Mapc, Mapti, Mapi, Movi, Int, Clear, Discard, Inv, Invall, Sync}
use Rattle.model.specs.Choose.{if_found}
use Rattle.model.specs.Profile.{Profile, base, strict, mapd_ends}
use Rattle.model.specs.Keys.{same_device, same_collection, same_pair, event_as_lpi}
use Rattle.model.specs.History.{Says, maps_it, unmaps_it, silent, now, Part, maps, moves, ends, ends_in, leaves, part_in, PairEntry, an_entry, pair_after, pair_now}
use Rattle.model.specs.Paragraph.{◌∈◌, Maps, MappingOf, MoviOf, Names, Ending, InForce}
use Rattle.model.proofs.Cases.{cases, never}
use Rattle.model.proofs.KeyLaws.{device_eq, collection_eq, pair_refl, pair_device, pair_event}
use Rattle.model.proofs.LastLaws.{Speak, last_iff, none_now, now_none}
use Rattle.model.proofs.Backing.{Came, came}

-- a MAPD ends pairs, computed and in words
ending : (f : Profile) (valid : Bool) → mapd_ends f valid ≡ true → Ending f valid
ending base true m = never true refl (sym m)
ending base false m = refl
ending strict valid m = tt

mapd_ends_lem : (f : Profile) (valid : Bool) → Ending f valid → mapd_ends f valid ≡ true
mapd_ends_lem base valid m = rw m
mapd_ends_lem strict valid m = refl

module _ (f : Profile) (d : ItsDeviceId) (e : EventId) where
  -- What a command is to the pair tells which command it is.
  abbrev Is : Part → Command → Type 0
  Is (maps l c) x = Maps d e l c x
  Is (moves c) x = x ≡ Movi d e c
  Is ends x = (x ≡ Discard d e) ⊎ ((bits : ℕ) × (valid : Bool) × Ending f valid × (x ≡ Mapd d bits valid))
  Is (ends_in c) x = (p : GicVcpuId) × (x ≡ Mapc c p false)
  Is leaves x = Unit {0}

  same : {A : Type 0} (f : ItsDeviceId → EventId → A) (d' : ItsDeviceId) (e' : EventId) → same_pair d' e' d e ≡ true → f d' e' ≡ f d e
  same f d' e' s = ap₂ f (pair_device d' e' d e s) (pair_event d' e' d e s)

  which : (x : Command) → Is (part_in f d e x) x
  unfolding part_in
  which (Mapd d' bits valid) =
      cases (mapd_ends f valid)
      (λ m. cases (same_device d' d) (λ s. rw (m, s) (inr (bits, valid, ending f valid m, ap (λ z. Mapd z bits valid) (device_eq d' d s)))) (λ s. rw (m, s) tt))
      (λ m. rw m tt)
  which (Mapc c p true) = tt
  which (Mapc c p false) = (p, refl)
  which (Mapti d' e' l c) = cases (same_pair d' e' d e) (λ s. rw s (inl (same (λ x y. Mapti x y l c) d' e' s))) (λ s. rw s tt)
  which (Mapi d' e' c) =
      cases (same_pair d' e' d e) (λ s. rw s (inr (same (λ x y. Mapi x y c) d' e' s, ap event_as_lpi (pair_event d' e' d e s)))) (λ s. rw s tt)
  which (Movi d' e' c) = cases (same_pair d' e' d e) (λ s. rw s (same (λ x y. Movi x y c) d' e' s)) (λ s. rw s tt)
  which (Int d' e') = tt
  which (Clear d' e') = tt
  which (Discard d' e') = cases (same_pair d' e' d e) (λ s. rw s (inl (same (λ x y. Discard x y) d' e' s))) (λ s. rw s tt)
  which (Inv d' e') = tt
  which (Invall c) = tt
  which Sync = tt

  -- And the other way round.
  part_mapping : (l : LpiId) (c : CollectionId) (x : Command) → Maps d e l c x → part_in f d e x ≡ maps l c
  unfolding part_in
  part_mapping l c x m =
      ⊎_elim (λ q. rw q (rw (pair_refl d e))) (λ q. rw q.0 (rw (pair_refl d e, q.1))) m

  part_movi : (c : CollectionId) → part_in f d e (Movi d e c) ≡ moves c
  unfolding part_in
  part_movi c = rw (pair_refl d e)

  part_discard : part_in f d e (Discard d e) ≡ ends
  unfolding part_in
  part_discard = rw (pair_refl d e)

  part_mapd : (bits : ℕ) (valid : Bool) → Ending f valid → part_in f d e (Mapd d bits valid) ≡ ends
  unfolding part_in
  part_mapd bits valid m = rw (mapd_ends_lem f valid m, eq-eqb d.0 d.0 refl)

  part_mapc : (c : CollectionId) (p : GicVcpuId) → part_in f d e (Mapc c p false) ≡ ends_in c
  unfolding part_in
  part_mapc c p = refl

  -- The collection that the pair names: that of its mapping command or the last later MOVI.
  abbrev move_in : Part → Says CollectionId
  move_in (maps l c) = silent
  move_in (moves c) = maps_it c
  move_in ends = silent
  move_in (ends_in c) = silent
  move_in leaves = silent

  abbrev moves_to : Command → Says CollectionId
  moves_to x = move_in (part_in f d e x)

  only_moves : (p : Part) (c : CollectionId) → move_in p ≡ maps_it c → p ≡ moves c
  only_moves (maps l c') c q = let m : silent ≡ maps_it c = q in cc
  only_moves (moves c') c q = cc
  only_moves ends c q = let m : silent ≡ maps_it c = q in cc
  only_moves (ends_in c') c q = let m : silent ≡ maps_it c = q in cc
  only_moves leaves c q = let m : silent ≡ maps_it c = q in cc

  never_unmoves : (p : Part) → move_in p ≡ unmaps_it → ⊥
  never_unmoves (maps l c') q = let m : ◌≡◌ {A = Says CollectionId} silent unmaps_it = q in never true refl (cc)
  never_unmoves (moves c') q = let m : maps_it c' ≡ unmaps_it = q in never true refl (cc)
  never_unmoves ends q = let m : ◌≡◌ {A = Says CollectionId} silent unmaps_it = q in never true refl (cc)
  never_unmoves (ends_in c') q = let m : ◌≡◌ {A = Says CollectionId} silent unmaps_it = q in never true refl (cc)
  never_unmoves leaves q = let m : ◌≡◌ {A = Says CollectionId} silent unmaps_it = q in never true refl (cc)

  is_movi : (x : Command) (c : CollectionId) → moves_to x ≡ maps_it c → x ≡ Movi d e c
  is_movi x c q = rw (only_moves (part_in f d e x) c q) at (which x)

  movi_moves : (c : CollectionId) → moves_to (Movi d e c) ≡ maps_it c
  movi_moves c = rw (part_movi c)

  speak_movi : Speak moves_to (MoviOf d e)
  speak_movi =
      record {
        said = λ x c q. (c, is_movi x c q);
        unsaid = λ x q. absurd (never_unmoves (part_in f d e x) q);
        spoken = λ x m s. let z : maps_it m.0 ≡ silent = rw (movi_moves m.0) at (rw m.1 at s) in never true refl (cc);
      }

  abbrev collection_after : CollectionId → List Command → CollectionId
  collection_after first later = if_found (now moves_to later) (λ c. c) first

  names : (first : CollectionId) (later : List Command) (c : CollectionId) → Names d e first later c ↔ (c ≡ collection_after first later)
  names first later c = (
    λ n. ⊎_elim (λ q. rw (none_now moves_to (MoviOf d e) speak_movi later q.1) q.0)
        (λ l. rw ((last_iff moves_to (MoviOf d e) speak_movi (λ c. Movi d e c) movi_moves is_movi later c).0 l)) n,
    λ q. there (now moves_to later) refl q,
  )
    where
      there : (o : Option CollectionId) → now moves_to later ≡ o → c ≡ if_found o (λ c. c) first → Names d e first later c
      there None n q = inl (q, now_none moves_to (MoviOf d e) speak_movi (λ x. never_unmoves (part_in f d e x)) later n)
      there (Some c') n q = inr ((last_iff moves_to (MoviOf d e) speak_movi (λ c. Movi d e c) movi_moves is_movi later c).1 (rw q n))

  -- Commands that neither map the pair anew nor end it: `c` is the collection that it names at that moment.
  abbrev Spares : Part → CollectionId → Type 0
  Spares (maps l c') c = ⊥
  Spares (moves c') c = Unit {0}
  Spares ends c = ⊥
  Spares (ends_in c') c = same_collection c c' ≡ false
  Spares leaves c = Unit {0}

  abbrev AllSpare : CollectionId → List Command → Type 0
  AllSpare first [] = Unit {0}
  AllSpare first (x ∷ later) = Spares (part_in f d e x) (collection_after first later) × AllSpare first later

  -- a command that spares a pair leaves it its LPI, in the collection that a MOVI may have given it
  spares : (x : Command) (p : Part) → part_in f d e x ≡ p → (l : LpiId) (first : CollectionId) (later : List Command) → Spares p (collection_after first later) →
      pair_after p (Some (an_entry l (collection_after first later))) ≡ Some (an_entry l (collection_after first (x ∷ later)))
  spares x (maps l' c') q l first later s = absurd s
  spares x (moves c') q l first later s = rw q
  spares x ends q l first later s = absurd s
  spares x (ends_in c') q l first later s = rw (q, s)
  spares x leaves q l first later s = rw q

  kept : (l : LpiId) (first : CollectionId) (x : Command) (before later : List Command) → part_in f d e x ≡ maps l first → AllSpare first later →
      pair_now f d e (later ++ x ∷ before) ≡ Some (an_entry l (collection_after first later))
  kept l first x before [] m s = rw m
  kept l first x before (y ∷ later) m s = rw (kept l first x before later m s.1) (spares y (part_in f d e y) refl l first later s.0)

  -- The paragraph's four conditions on the later commands are that all of them spare the pair.
  record Unended (first : CollectionId) (later : List Command) : Type 0 where
    none_maps : (x : Command) → MappingOf d e x → x ∈ later → ⊥
    no_discard : Discard d e ∈ later → ⊥
    no_ending_mapd : (bits : ℕ) (valid : Bool) → Ending f valid → Mapd d bits valid ∈ later → ⊥
    no_invalid_mapc : (c : CollectionId) (p : GicVcpuId) (after until : List Command) → later ≡ after ++ Mapc c p false ∷ until → Names d e first until c → ⊥

  all_spare : (first : CollectionId) (later : List Command) → Unended first later → AllSpare first later
  all_spare first [] n = tt
  all_spare first (x ∷ later) n = (
    here (part_in f d e x) (which x),
    all_spare first later
        (record {
          none_maps = λ y i m. n.none_maps y i (inr m);
          no_discard = λ m. n.no_discard (inr m);
          no_ending_mapd = λ bits valid i m. n.no_ending_mapd bits valid i (inr m);
          no_invalid_mapc = λ c p after until q. n.no_invalid_mapc c p (x ∷ after) until (ap (λ r. x ∷ r) q);
        }),
  )
    where
      here : (p : Part) → Is p x → Spares p (collection_after first later)
      here (maps l c) i = n.none_maps x (l, c, i) (inl refl)
      here (moves c) i = tt
      here ends i = ⊎_elim (λ q. n.no_discard (inl (sym q))) (λ q. n.no_ending_mapd q.0 q.1 q.2 (inl (sym q.3))) i
      here (ends_in c) i =
          cases (same_collection (collection_after first later) c)
          (λ s. absurd (n.no_invalid_mapc c i.0 [] later (ap (λ y. y ∷ later) i.1) ((names first later c).1 (sym (collection_eq (collection_after first later) c s)))))
          (λ s. s)
      here leaves i = tt

  -- every later command spares the pair, at its moment
  spared : (first : CollectionId) (later : List Command) → AllSpare first later → (x : Command) → x ∈ later → (c : CollectionId) × Spares (part_in f d e x) c
  spared first [] s x m = absurd m
  spared first (y ∷ later) s x m =
      ⊎_elim (λ q. (collection_after first later, rw q s.0)) (λ n. spared first later s.1 x n) m

  spared_at : (first : CollectionId) (after : List Command) (x : Command) (until : List Command) → AllSpare first (after ++ x ∷ until) → Spares (part_in f d e x) (collection_after first until)
  spared_at first [] x until s = s.0
  spared_at first (y ∷ after) x until s = spared_at first after x until s.1

  unended : (first : CollectionId) (later : List Command) → AllSpare first later → Unended first later
  unended first later s =
      record {
        none_maps = λ x i m. let (c, t) = spared first later s x m in rw (part_mapping i.0 i.1 x i.2) at t;
        no_discard = λ m. let (c, t) = spared first later s (Discard d e) m in rw part_discard at t;
        no_ending_mapd = λ bits valid i m. let (c, t) = spared first later s (Mapd d bits valid) m in rw (part_mapd bits valid i) at t;
        no_invalid_mapc = λ c p after until q n.
            let t : Spares (part_in f d e (Mapc c p false)) (collection_after first until) = spared_at first after (Mapc c p false) until (rw q at s) in
            let f : same_collection (collection_after first until) c ≡ false = rw (part_mapc c p) at t in
            never (same_collection (collection_after first until) c) (eq-eqb (collection_after first until).0 c.0 (ap (λ z. z.0) (sym ((names first until c).0 n)))) f;
      }

  -- From the entry back to the commands that made it.
  record Made (h : List Command) (y : PairEntry) : Type 0 where
    mapping : Command
    first : CollectionId
    later : List Command
    before : List Command
    there : h ≡ later ++ mapping ∷ before
    made : Maps d e y.lpi first mapping
    spare : AllSpare first later
    lies : y.collection ≡ collection_after first later

  -- one more command that spares it
  more : (x : Command) (h : List Command) (p : Part) → part_in f d e x ≡ p → (y z : PairEntry) → Made h z → Spares p z.collection → pair_after p (Some z) ≡ Some y → Made (x ∷ h) y
  more x h p q y z g s a =
      let t : Spares p (collection_after g.first g.later) = rw g.lies at s in
      let w₀ : Some (an_entry z.lpi (collection_after g.first (x ∷ g.later))) ≡ Some y =
      sym (spares x p q z.lpi g.first g.later t) ∙ (ap (λ k. pair_after p (Some (an_entry z.lpi k))) (sym g.lies) ∙ a) in
      let w : an_entry z.lpi (collection_after g.first (x ∷ g.later)) ≡ y = cc in
      record {
        mapping = g.mapping;
        first = g.first;
        later = x ∷ g.later;
        before = g.before;
        there = ap (λ r. x ∷ r) g.there;
        made = rw (← w) g.made;
        spare = (rw q t, g.spare);
        lies = rw (← w);
      }

  make : (h : List Command) (y : PairEntry) → pair_now f d e h ≡ Some y → Made h y
  make [] y q = never true refl (cc)
  make (x ∷ h) y q = go (part_in f d e x) refl (which x) (came (part_in f d e x) (pair_now f d e h) y q) (make h)
    where
      go : (p : Part) → part_in f d e x ≡ p → Is p x → Came p (pair_now f d e h) y → ((z : PairEntry) → pair_now f d e h ≡ Some z → Made h z) → Made (x ∷ h) y
      go (maps l c) e i k ih = record { mapping = x; first = c; later = []; before = h; there = refl; made = rw k i; spare = tt; lies = rw k }
      go (moves c) e i k ih = more x h (moves c) e y k.0 (ih k.0 k.1) tt (ap Some (sym k.2))
      go ends e i k ih = absurd k
      go (ends_in c) e i k ih = more x h (ends_in c) e y y (ih y k.0) k.1 (rw k.1)
      go leaves e i k ih = more x h leaves e y y (ih y k) tt refl

  pub in_force : (h : List Command) (l : LpiId) (c : CollectionId) → InForce f h d e l c ↔ (pair_now f d e h ≡ Some (an_entry l c))
  in_force h l c = (
    λ i.
        let n : Unended i.first i.last.later =
        record { none_maps = i.last.none_later; no_discard = i.no_discard; no_ending_mapd = i.no_ending_mapd; no_invalid_mapc = i.no_invalid_mapc } in
        let k = kept l i.first i.mapping i.last.before i.last.later (part_mapping l i.first i.mapping i.maps) (all_spare i.first i.last.later n) in
        rw (i.last.there, (names i.first i.last.later c).0 i.collection) k,
    λ q.
        let m = make h (an_entry l c) q in
        let n = unended m.first m.later m.spare in
        record {
          mapping = m.mapping;
          first = m.first;
          maps = m.made;
          last = record { later = m.later; before = m.before; there = m.there; is_one = (l, m.first, m.made); none_later = n.none_maps };
          no_discard = n.no_discard;
          no_ending_mapd = n.no_ending_mapd;
          no_invalid_mapc = n.no_invalid_mapc;
          collection = (names m.first m.later c).1 m.lies;
        },
  )
