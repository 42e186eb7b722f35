-- The waiting commands of a sound ring: the last one ends at CWRITER, and no two stand at one place. The ring stays sound while CREADR moves over
-- them, and when CWRITER or CBASER is written.
-- Assumes nothing.
use Prim.Native.Nat.{ℕ, ◌+◌, ◌-◌, ◌*◌, ◌/◌, ◌%◌, ◌≤◌, ◌<◌}
use native.Mathlib.Omega.{arith}
use native.Mathlib.Nat.{lt_trans, zero-mod, add-mod_right, mod-eq-sub-mod, mod-eq_of_lt}
use mathlib.Core.Path.{◌≡◌, refl, ◌∙◌}
use mathlib.Core.Bool.{true, false, not}
use lib.Dec.{leb, ltb, eqb}
use borrow.Author.Tests.{ltb-true, ltb-false, leb-true, leb-false, eqb-true}
use Rattle.model.specs.declared.ItsRegisters.{ItsRegisters}
use Rattle.model.specs.Arm.{page, command_size}
use Rattle.model.specs.Config.{queue_base, queue_size, sound_ring}
use Rattle.model.specs.Queue.{distance, waiting}
use Rattle.model.specs.Writing.{with_cbaser, writer_accepted}
use Rattle.model.specs.With.{with_reader, with_writer}
use Rattle.model.specs.Passed.{ring_offset}
use Rattle.model.proofs.Cases.{cases}
use Rattle.model.proofs.Ring.{size_positive, wraps_whole, is_offset, offset_whole, offset_below, idle, ring, idle_sound, ring_sound, reader_below, offset_below_size, offset_here}

-- none waits where CBASER is zero
pub none_waits : (r : ItsRegisters) → sound_ring r ≡ true → eqb r.cbaser 0 ≡ true → waiting r ≡ 0
unfolding waiting distance
none_waits r s z = rw ((idle r s z).reader, (idle r s z).writer)

-- from a to b, both whole numbers of commands: straight on, and around the end of a queue of k pages
module _ (a b : ℕ) (wa : a % command_size ≡ 0) (wb : b % command_size ≡ 0) where
  straight : (s : ℕ) → a ≤ b → b < s → (a + command_size * ((b - a) / command_size)) % s ≡ b
  straight s l h = let same : a + command_size * ((b - a) / command_size) ≡ b = omega arith in rw same (mod-eq_of_lt h)

  around : (k : ℕ) → b < a → a < k * page → (a + command_size * ((b + k * page - a) / command_size)) % (k * page) ≡ b
  around k l h =
      let same : a + command_size * ((b + k * page - a) / command_size) ≡ b + k * page = omega arith in
      rw same (add-mod_right b (k * page) ∙ mod-eq_of_lt (lt_trans l h))

-- two places of a queue are the same only where as many bytes lead to them: less than the whole queue wraps at most once
wraps : {P : Type 0} (a x s : ℕ) → a < s → x < s → ((a + x) % s ≡ a + x → P) → ((a + x) % s + s ≡ a + x → P) → P
wraps a x s ha hx f g =
    cases (ltb (a + x) s) (λ l. f (mod-eq_of_lt (ltb-true _ _ l)))
    (λ l. let over = ltb-false (a + x) s l in
    let less : a + x - s < s = omega arith in
    let same = mod-eq-sub-mod over ∙ mod-eq_of_lt less in
    g (omega arith))

once : (a x y s : ℕ) → a < s → x < s → y < s → (a + x) % s ≡ (a + y) % s → x ≡ y
once a x y s ha hx hy e =
    wraps a x s ha hx
    (λ p. wraps a y s ha hy (λ q. omega arith) (λ q. omega arith))
    (λ p. wraps a y s ha hy (λ q. omega arith) (λ q. omega arith))

module _ (r : ItsRegisters) (s : sound_ring r ≡ true) where
  -- the last one ends at CWRITER
  pub waiting_all : ring_offset r (waiting r) ≡ r.cwriter
  unfolding waiting distance
  waiting_all =
      cases (eqb r.cbaser 0) (λ z. rw ((idle r s z).reader, (idle r s z).writer) (zero-mod (queue_size r.cbaser)))
      (λ n. let k = ring r s n in
      let wa = offset_whole r.cbaser r.creadr k.reader in
      let wb = offset_whole r.cbaser r.cwriter k.writer in
      let ba = offset_below r.cbaser r.creadr k.reader in
      let bb = offset_below r.cbaser r.cwriter k.writer in
      cases (leb r.creadr r.cwriter)
      (λ l. rw l (straight r.creadr r.cwriter wa wb (queue_size r.cbaser) (leb-true _ _ l) bb))
      (λ l. rw l (around r.creadr r.cwriter wa wb _ (leb-false _ _ l) ba)))

  -- they are fewer than the queue has places for
  pub waiting_fewer : command_size * waiting r < queue_size r.cbaser
  unfolding waiting distance
  waiting_fewer =
      cases (eqb r.cbaser 0) (λ z. rw ((idle r s z).reader, (idle r s z).writer) (size_positive r.cbaser))
      (λ n. let k = ring r s n in
      let ba = offset_below r.cbaser r.creadr k.reader in
      let bb = offset_below r.cbaser r.cwriter k.writer in
      cases (leb r.creadr r.cwriter)
      (λ l. rw l (omega arith))
      (λ l. rw l (omega (arith, leb-false r.creadr r.cwriter l))))

  -- so no two of them stand at one place
  pub offset_once : (m n : ℕ) → m ≤ waiting r → n ≤ waiting r → ring_offset r m ≡ ring_offset r n → m ≡ n
  offset_once m n hm hn e =
      let fewer = waiting_fewer in
      let same = once r.creadr (command_size * m) (command_size * n) (queue_size r.cbaser) (reader_below r s) (omega arith) (omega arith) e in
      omega arith

  -- Soundness stays.

  -- with a base, wherever CREADR goes on to; so a command that it passes keeps the ring sound
  moved_sound : eqb r.cbaser 0 ≡ false → (n : ℕ) → sound_ring (with_reader r (ring_offset r n)) ≡ true
  moved_sound z n =
      let k = ring r s z in
      let reader = offset_whole r.cbaser r.creadr k.reader in
      let whole : ring_offset r n % command_size ≡ 0 = wraps_whole (r.creadr + command_size * n) r.cbaser ∙ omega arith in
      ring_sound (with_reader r (ring_offset r n)) z
      (record { base = k.base; reader = is_offset r.cbaser (ring_offset r n) whole (offset_below_size r n); writer = k.writer })

  -- and with no base too, as no command waits there
  pub reader_sound : (n : ℕ) → n ≤ waiting r → sound_ring (with_reader r (ring_offset r n)) ≡ true
  reader_sound n l =
      cases (eqb r.cbaser 0)
      (λ z. let none : n ≡ 0 = omega (arith, none_waits r s z) in
      rw (none, offset_here r (reader_below r s)) s)
      (λ z. moved_sound z n)

  -- where CWRITER is written, with a value that is accepted
  pub writer_sound : (writer : ℕ) → writer_accepted r writer ≡ true → sound_ring (with_writer r writer) ≡ true
  unfolding writer_accepted
  writer_sound writer t =
      cases (eqb r.cbaser 0)
      (λ z. idle_sound (with_writer r writer) z (record { reader = (idle r s z).reader; writer = eqb-true _ _ (rw z at t) }))
      (λ z. let k = ring r s z in
      ring_sound (with_writer r writer) z (record { base = k.base; reader = k.reader; writer = rw z at t }))

-- where CBASER is written: both offsets are 0
pub base_sound : (r : ItsRegisters) (value : ℕ) → not (eqb (queue_base value) 0) ≡ true → sound_ring (with_cbaser r value) ≡ true
base_sound r value t =
    cases (eqb value 0) (λ z. idle_sound (with_cbaser r value) z (record { reader = refl; writer = refl }))
    (λ z. let start = is_offset value 0 refl (size_positive value) in
    ring_sound (with_cbaser r value) z (record { base = t; reader = start; writer = start }))
