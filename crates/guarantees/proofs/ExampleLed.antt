-- 01'S EXAMPLE, AND ITS LAST CORNER after it, are a run of calls as demand 3 speaks of, by the entries and by the C calls: every answer is computed from
-- the definitions, and so are the commands that each write passed.
-- Assumes nothing.
use Rattle.std.specs.Prelude.{Err, Ok}
use Prim.Native.Nat.{ℕ}
use mathlib.Core.Path.{refl}
use mathlib.Core.List.{[], ◌∷◌}
use Rattle.model.specs.declared.ItsState.{ItsState}
use Rattle.model.specs.declared.Command.TheVariants.{Int}
use Rattle.model.specs.declared.Refusal.TheVariants.{OpcodeUnknown, ResourceNotFound}
use Rattle.model.specs.Answer.{write_refused, write_taken}
use Rattle.model.specs.Arm.{GITS_CTLR, GITS_CBASER, GITS_CWRITER, GITS_CREADR}
use Rattle.model.specs.Keys.{delivery}
use Rattle.model.specs.Entry.{write}
use Rattle.model.specs.Passed.{command_of}
use Rattle.model.specs.Corners.{with_limit, fresh, example_met}
use Rattle.model.proofs.Computed.{shown}
use Rattle.its.specs.Promises.{Configures, Reads, Writes, Translates}
use Rattle.host.specs.Calls.{processors_given, none_further, CallConfigures, CallReads, CallWrites, CallTranslates}
use Rattle.guarantees.specs.MappingsInForce.{Led, begins, a_read, a_translate, a_write}
use Rattle.guarantees.specs.CallsInForce.{LedByCalls, by_its_configure, by_its_read, by_its_translate, by_its_write}
use Rattle.guarantees.specs.ExampleCalls.{window, corner_window, row, row_left, number_row, number_row_left, ExampleByEntries, ExampleByCalls}

abbrev after : ItsState → ℕ → ℕ → ℕ → ItsState
after u offset width value = (write window row u offset width value).written.unit

-- the unit configured, and after each of the writes
abbrev unit₀ : ItsState
unit₀ = fresh 65535

abbrev unit₁ : ItsState
unit₁ = after unit₀ GITS_CBASER 8 0x8000000040000000

abbrev unit₂ : ItsState
unit₂ = after unit₁ GITS_CTLR 4 1

abbrev unit₃ : ItsState
unit₃ = after unit₂ GITS_CWRITER 8 128

abbrev unit₄ : ItsState
unit₄ = (write corner_window row unit₃ GITS_CWRITER 8 192).written.unit

-- By the entries.

cf : Configures (with_limit 65535) (record { unit = unit₀; verdict = Ok tt })
unfolding shown
cf = record { answer = refl; numbers = refl }

wr_cbaser : Writes window row unit₀ GITS_CBASER 8 0x8000000040000000 (record { unit = unit₁; answer = write_taken 0 0 }) row
unfolding shown
wr_cbaser = record { answer = refl; row_is = refl; numbers = refl }

rd_cbaser : Reads unit₁ GITS_CBASER 4 (Ok 1073741824)
unfolding shown
rd_cbaser = record { answer = refl; numbers = refl }

wr_ctlr : Writes window row unit₁ GITS_CTLR 4 1 (record { unit = unit₂; answer = write_taken 0 0 }) row
unfolding shown
wr_ctlr = record { answer = refl; row_is = refl; numbers = refl }

wr_cwriter : Writes window row unit₂ GITS_CWRITER 8 128 (record { unit = unit₃; answer = write_taken 4 1 }) row_left
unfolding shown
wr_cwriter = record { answer = refl; row_is = refl; numbers = refl }

rd_creadr : Reads unit₃ GITS_CREADR 8 (Ok 128)
unfolding shown
rd_creadr = record { answer = refl; numbers = refl }

tr_5_9 : Translates unit₃ (record { 0 = 5 }) (record { 0 = 9 }) (Ok (delivery (record { 0 = 8200 }) (record { 0 = 1 })))
unfolding shown
tr_5_9 = record { answer = refl; numbers = refl }

tr_5_8 : Translates unit₃ (record { 0 = 5 }) (record { 0 = 8 }) (Err ResourceNotFound)
unfolding shown
tr_5_8 = record { answer = refl; numbers = refl }

led : Led (with_limit 65535) unit₃ example_met
unfolding shown command_of
led =
    let to₁ : Led (with_limit 65535) unit₁ [] = a_write (begins _ cf refl) window row GITS_CBASER 8 0x8000000040000000 _ row wr_cbaser in
    let to₂ : Led (with_limit 65535) unit₂ [] = a_write (a_read to₁ GITS_CBASER 4 _ rd_cbaser) window row GITS_CTLR 4 1 _ row wr_ctlr in
    let to₃ : Led (with_limit 65535) unit₃ example_met = a_write to₂ window row GITS_CWRITER 8 128 _ row_left wr_cwriter in
    a_translate (a_translate (a_read to₃ GITS_CREADR 8 _ rd_creadr) _ _ _ tr_5_9) _ _ _ tr_5_8

wr_corner : Writes corner_window row unit₃ GITS_CWRITER 8 192 (record { unit = unit₄; answer = write_refused OpcodeUnknown 14 160 1 1 }) row_left
unfolding shown
wr_corner = record { answer = refl; row_is = refl; numbers = refl }

led_on : Led (with_limit 65535) unit₄ (Int (record { 0 = 5 }) (record { 0 = 9 }) ∷ example_met)
unfolding shown command_of
led_on = a_write led corner_window row GITS_CWRITER 8 192 _ row_left wr_corner

pub example_by_entries : ExampleByEntries
example_by_entries =
    record {
      fresh = unit₀;
      based = unit₁;
      enabled = unit₂;
      ended = unit₃;
      cf = cf;
      wr_cbaser = wr_cbaser;
      rd_cbaser = rd_cbaser;
      wr_ctlr = wr_ctlr;
      wr_cwriter = wr_cwriter;
      rd_creadr = rd_creadr;
      tr_5_9 = tr_5_9;
      tr_5_8 = tr_5_8;
      led = led;
      stopped = unit₄;
      wr_corner = wr_corner;
      led_on = led_on;
    }

-- By the C calls.

call_cf : CallConfigures (65535 ∷ 64 ∷ 65536 ∷ []) (0 ∷ 1 ∷ []) unit₀ 0 (0 ∷ 0 ∷ 0 ∷ 0 ∷ 0 ∷ [])
unfolding shown processors_given none_further
call_cf = (refl, (refl, refl))

call_wr_cbaser : CallWrites window number_row unit₀ GITS_CBASER 8 0x8000000040000000 unit₁ number_row 0 (0 ∷ 0 ∷ 0 ∷ 0 ∷ 0 ∷ [])
unfolding shown
call_wr_cbaser = record { unit = refl; row = refl; row_reads = refl; told = (refl, refl) }

call_rd_cbaser : CallReads unit₁ GITS_CBASER 4 0 (0 ∷ 1073741824 ∷ 0 ∷ 0 ∷ 0 ∷ [])
unfolding shown
call_rd_cbaser = (refl, refl)

call_wr_ctlr : CallWrites window number_row unit₁ GITS_CTLR 4 1 unit₂ number_row 0 (0 ∷ 0 ∷ 0 ∷ 0 ∷ 0 ∷ [])
unfolding shown
call_wr_ctlr = record { unit = refl; row = refl; row_reads = refl; told = (refl, refl) }

call_wr_cwriter : CallWrites window number_row unit₂ GITS_CWRITER 8 128 unit₃ number_row_left 0 (0 ∷ 0 ∷ 0 ∷ 4 ∷ 1 ∷ [])
unfolding shown
call_wr_cwriter = record { unit = refl; row = refl; row_reads = refl; told = (refl, refl) }

call_rd_creadr : CallReads unit₃ GITS_CREADR 8 0 (0 ∷ 128 ∷ 0 ∷ 0 ∷ 0 ∷ [])
unfolding shown
call_rd_creadr = (refl, refl)

call_tr_5_9 : CallTranslates unit₃ 5 9 0 (0 ∷ 8200 ∷ 1 ∷ 0 ∷ 0 ∷ [])
unfolding shown
call_tr_5_9 = (refl, refl)

call_tr_5_8 : CallTranslates unit₃ 5 8 8 (8 ∷ 0 ∷ 0 ∷ 0 ∷ 0 ∷ [])
unfolding shown
call_tr_5_8 = (refl, refl)

led_by_calls : LedByCalls (with_limit 65535) unit₃ example_met
unfolding shown command_of processors_given none_further
led_by_calls =
    let to₀ : LedByCalls (with_limit 65535) unit₀ [] = by_its_configure (65535 ∷ 64 ∷ 65536 ∷ []) (0 ∷ 1 ∷ []) refl unit₀ 0 _ call_cf refl in
    let to₁ : LedByCalls (with_limit 65535) unit₁ [] = by_its_write to₀ window number_row GITS_CBASER 8 0x8000000040000000 unit₁ _ _ _ call_wr_cbaser in
    let to₂ : LedByCalls (with_limit 65535) unit₂ [] = by_its_write (by_its_read to₁ GITS_CBASER 4 _ _ call_rd_cbaser) window number_row GITS_CTLR 4 1 unit₂ _ _ _ call_wr_ctlr in
    let to₃ : LedByCalls (with_limit 65535) unit₃ example_met = by_its_write to₂ window number_row GITS_CWRITER 8 128 unit₃ _ _ _ call_wr_cwriter in
    by_its_translate (by_its_translate (by_its_read to₃ GITS_CREADR 8 _ _ call_rd_creadr) 5 9 _ _ call_tr_5_9) 5 8 _ _ call_tr_5_8

call_wr_corner : CallWrites corner_window number_row unit₃ GITS_CWRITER 8 192 unit₄ number_row_left 20 (20 ∷ 14 ∷ 160 ∷ 1 ∷ 1 ∷ [])
unfolding shown
call_wr_corner = record { unit = refl; row = refl; row_reads = refl; told = (refl, refl) }

led_on_by_calls : LedByCalls (with_limit 65535) unit₄ (Int (record { 0 = 5 }) (record { 0 = 9 }) ∷ example_met)
unfolding shown command_of
led_on_by_calls = by_its_write led_by_calls corner_window number_row GITS_CWRITER 8 192 unit₄ _ _ _ call_wr_corner

pub example_by_calls : ExampleByCalls
example_by_calls =
    record {
      fresh = unit₀;
      based = unit₁;
      enabled = unit₂;
      ended = unit₃;
      cf = call_cf;
      wr_cbaser = call_wr_cbaser;
      rd_cbaser = call_rd_cbaser;
      wr_ctlr = call_wr_ctlr;
      wr_cwriter = call_wr_cwriter;
      rd_creadr = call_rd_creadr;
      tr_5_9 = call_tr_5_9;
      tr_5_8 = call_tr_5_8;
      led = led_by_calls;
      stopped = unit₄;
      wr_corner = call_wr_corner;
      led_on = led_on_by_calls;
    }
