-- The number goes down from byte to byte, and stays below the room for as many bytes as it has.
use native.Mathlib.Omega.{arith}
use Prim.Native.Nat.{ℕ, suc, ◌+◌, ◌-◌, ◌*◌, ◌^◌, ◌≤◌, ◌<◌}
use mathlib.Core.Path.{◌≡◌}
use lib.ListN.{drop, get_or}
use Rattle.model.specs.Queue.{little_endian}
use Rattle.words.proofs.LittleEndian.{next, below_from}
use Rattle.trace.proofs.parts.number_at.Goals as goal

pub overflow_mul-word : goal.overflow_mul-word
overflow_mul-word c =
    let h = c.loop-i in
    let a = c.args in
    let room : h.word < 256 ^ 7 = rw h.invariant.1 (below_from (a.count - h.i) 7 (a.at + h.i) a.bytes.now (omega arith) (λ k. (c.type_inv.bytes k).fits)) in
    omega arith

pub overflow_add-word : goal.overflow_add-word
overflow_add-word c =
    let h = c.loop-i in
    let a = c.args in
    let room : h.word < 256 ^ 7 = rw h.invariant.1 (below_from (a.count - h.i) 7 (a.at + h.i) a.bytes.now (omega arith) (λ k. (c.type_inv.bytes k).fits)) in
    let byte = (c.type_inv.bytes (a.at + (h.i - 1))).fits in
    omega (arith, c.from.ensures)

pub loop-i-preserved : goal.loop-i-preserved
loop-i-preserved c =
    let h = c.loop-i in
    let a = c.args in
    let more : a.count - (h.i - 1) ≡ suc (a.count - h.i) = omega arith in
    let on : suc (a.at + (h.i - 1)) ≡ a.at + h.i = omega arith in
    let step = next (a.count - h.i) (a.at + (h.i - 1)) a.bytes.now in
    (omega arith, rw more (omega (arith, rw on at step, h.invariant.1, c.from.ensures)))

pub returns : goal.returns
returns c =
    let h = c.loop-i in
    let a = c.args in
    let out : h.i ≡ 0 = omega arith in
    let whole : a.count - 0 ≡ a.count = omega arith in
    let here : a.at + 0 ≡ a.at = omega arith in
    (rw (out, whole, here) at h.invariant.1, rw h.invariant.1 (below_from (a.count - h.i) a.count (a.at + h.i) a.bytes.now (omega arith) (λ k. (c.type_inv.bytes k).fits)))
