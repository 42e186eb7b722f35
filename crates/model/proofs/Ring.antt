-- The ring of the queue: what a sound ring is, and where the commands from CREADR on stand, one after the other.
-- Assumes nothing.
use Prim.Native.Nat.{ℕ, zero, suc, ◌+◌, ◌*◌, ◌%◌, ◌<◌}
use native.Mathlib.Omega.{arith}
use native.Mathlib.Nat.{add-zero, mod-lt, mod-eq_of_lt, mod-add-mod, mod-mod_of_dvd, dvd-mul_left, dvd-mul_left_of_dvd}
use mathlib.Core.Path.{◌≡◌, sym, ap, ◌∙◌}
use mathlib.Core.Bool.{true, false, ◌&&◌, not}
use lib.Dec.{eqb}
use borrow.Author.Tests.{ltb-true, lt-ltb, eqb-true, eq-eqb}
use Rattle.model.specs.declared.ItsRegisters.{ItsRegisters}
use Rattle.model.specs.Arm.{command_size}
use Rattle.model.specs.Config.{queue_base, queue_size, is_queue_offset, sound_ring}
use Rattle.model.specs.Queue.{past_command}
use Rattle.model.specs.With.{with_reader}
use Rattle.model.specs.Passed.{ring_offset}
use Rattle.model.proofs.Cases.{cases, and_left, and_right, both}

-- a queue has room for at least one command, and for a whole number of them
pub size_positive : (cbaser : ℕ) → 0 < queue_size cbaser
size_positive cbaser = omega arith

pub wraps_whole : (a cbaser : ℕ) → a % queue_size cbaser % command_size ≡ a % command_size
wraps_whole a cbaser = mod-mod_of_dvd command_size a (dvd-mul_left_of_dvd command_size (dvd-mul_left command_size 128) _)

-- an offset into the queue, as numbers
pub is_offset : (cbaser offset : ℕ) → offset % command_size ≡ 0 → offset < queue_size cbaser → is_queue_offset cbaser offset ≡ true
is_offset cbaser offset w b = both _ _ (eq-eqb _ _ w) (lt-ltb _ _ b)

module _ (cbaser offset : ℕ) (h : is_queue_offset cbaser offset ≡ true) where
  pub offset_whole : offset % command_size ≡ 0
  offset_whole = eqb-true _ _ (and_left _ _ h)

  pub offset_below : offset < queue_size cbaser
  offset_below = ltb-true _ _ (and_right (eqb (offset % command_size) 0) _ h)

-- what a sound ring is, with CBASER zero and with a base
module _ (r : ItsRegisters) where
  pub record Idle : Type 0 where
    pub reader : r.creadr ≡ 0
    pub writer : r.cwriter ≡ 0

  pub record Ring : Type 0 where
    pub base : not (eqb (queue_base r.cbaser) 0) ≡ true
    pub reader : is_queue_offset r.cbaser r.creadr ≡ true
    pub writer : is_queue_offset r.cbaser r.cwriter ≡ true

  pub idle : sound_ring r ≡ true → eqb r.cbaser 0 ≡ true → Idle
  unfolding sound_ring
  idle s z =
      let s' : (eqb r.creadr 0 && eqb r.cwriter 0) ≡ true = rw z at s in
      record { reader = eqb-true _ _ (and_left _ _ s'); writer = eqb-true _ _ (and_right (eqb r.creadr 0) _ s') }

  pub ring : sound_ring r ≡ true → eqb r.cbaser 0 ≡ false → Ring
  unfolding sound_ring
  ring s n =
      let s' : (not (eqb (queue_base r.cbaser) 0) && (is_queue_offset r.cbaser r.creadr && is_queue_offset r.cbaser r.cwriter)) ≡ true = rw n at s in
      let o = and_right (not (eqb (queue_base r.cbaser) 0)) _ s' in
      record { base = and_left _ _ s'; reader = and_left _ _ o; writer = and_right (is_queue_offset r.cbaser r.creadr) _ o }

  pub idle_sound : eqb r.cbaser 0 ≡ true → Idle → sound_ring r ≡ true
  unfolding sound_ring
  idle_sound z i = rw z (both _ _ (eq-eqb _ _ i.reader) (eq-eqb _ _ i.writer))

  pub ring_sound : eqb r.cbaser 0 ≡ false → Ring → sound_ring r ≡ true
  unfolding sound_ring
  ring_sound n k = rw n (both _ _ k.base (both _ _ k.reader k.writer))

-- The places of the commands.

-- CREADR stands in the queue
pub reader_below : (r : ItsRegisters) → sound_ring r ≡ true → r.creadr < queue_size r.cbaser
reader_below r s =
    cases (eqb r.cbaser 0) (λ z. omega (arith, (idle r s z).reader))
    (λ n. offset_below r.cbaser r.creadr (ring r s n).reader)

-- and so does every command from there on
pub offset_below_size : (r : ItsRegisters) (n : ℕ) → ring_offset r n < queue_size r.cbaser
offset_below_size r n = mod-lt _ (size_positive r.cbaser)

pub past_below : (r : ItsRegisters) → (past_command r).creadr < queue_size r.cbaser
past_below r = offset_below_size r 1

-- the first is where CREADR stands, and the others follow on it
pub offset_here : (r : ItsRegisters) → r.creadr < queue_size r.cbaser → ring_offset r 0 ≡ r.creadr
offset_here r b = rw (add-zero r.creadr) (mod-eq_of_lt b)

pub offset_next : (r : ItsRegisters) (n : ℕ) → ring_offset (past_command r) n ≡ ring_offset r (suc n)
offset_next r n =
    let same : r.creadr + command_size + command_size * n ≡ r.creadr + command_size * suc n = omega arith in
    mod-add-mod (r.creadr + command_size) (queue_size r.cbaser) (command_size * n) ∙ ap (λ a. a % queue_size r.cbaser) same

-- so after n commands CREADR stands on the n-th
abbrev pub past_commands : ℕ → ItsRegisters → ItsRegisters
past_commands zero r = r
past_commands (suc n) r = past_commands n (past_command r)

pub past_reader : (n : ℕ) (r : ItsRegisters) → r.creadr < queue_size r.cbaser → past_commands n r ≡ with_reader r (ring_offset r n)
past_reader zero r b = ap (with_reader r) (sym (offset_here r b))
past_reader (suc n) r b = past_reader n (past_command r) (past_below r) ∙ ap (with_reader r) (offset_next r n)
