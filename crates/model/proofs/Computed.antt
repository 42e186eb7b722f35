-- What the definitions compute to: to open `shown` is to open every definition that a trace runs through.
-- Assumes nothing.
use mathlib.Core.List.{List}
use Prim.Native.Nat.{ℕ}
use Rattle.model.specs.Table.{place, room, store}
use Rattle.model.specs.Config.{listed, sizes_in01, sound_config, sound_ring}
use Rattle.model.specs.Decode.{decode}
use Rattle.model.specs.Step.{delivery_in, lpi_in_range, event_below, check_mapping, too_large, store_device, store_collection, store_translation, drop_device, drop_collection, drop_pair, cleared, move_pair, actions_on, stepped}
use Rattle.model.specs.Queue.{command_at, distance, waiting, turn, carry_out, stall, held, may_run, run_queue}
use Rattle.model.specs.Register.{register_at, typer_value, creadr_value, read_part, merged}
use Rattle.model.specs.Access.{check_access, check_read, check_write}
use Rattle.model.specs.Writing.{to_ctlr, to_cbaser, retries, offered, to_cwriter, to_baser, baser_after, writer_accepted, register_write}
use Rattle.model.specs.Entry.{configure, read_from, translate, running, write}
use Rattle.model.specs.Trace.{parse, decimal, line, write_of, trace_lines, printed}

unfoldable pub shown : List ℕ → List ℕ
unfolding place room store listed sizes_in01 sound_config sound_ring decode delivery_in lpi_in_range event_below check_mapping too_large store_device store_collection
    store_translation drop_device drop_collection drop_pair cleared move_pair actions_on stepped command_at distance waiting turn carry_out stall held may_run run_queue register_at
    typer_value creadr_value read_part merged baser_after writer_accepted configure check_access check_read check_write to_ctlr to_cbaser retries offered to_cwriter to_baser register_write
    read_from translate running write parse decimal line write_of trace_lines printed
shown trace = printed trace
