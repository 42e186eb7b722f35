-- ALL THAT IS GUARANTEED holds.
-- Assumes nothing.
use Rattle.model.proofs.Registers.{same_sound}
use Rattle.model.proofs.Numbers.{numbered, one_reason, not_zero, folds, folded_only}
use Rattle.guarantees.specs.Theorems.{Theorems}
use Rattle.guarantees.proofs.InForce.{mappings_in_force, actions_given}
use Rattle.guarantees.proofs.ByCalls.{led_by_calls, calls_in_force, call_actions_given}
use Rattle.guarantees.proofs.ExampleLed.{example_by_entries, example_by_calls}
use Rattle.guarantees.proofs.Along.{actions_firm}
use Rattle.guarantees.proofs.Firmness.{firm_entries, answered_entries}
use Rattle.guarantees.proofs.AsWrites.{lent_writes, call_writes}
use Rattle.guarantees.proofs.Kept.{ring_kept, commands_kept}
use Rattle.guarantees.proofs.Refused.{refusal_kept}
use Rattle.guarantees.proofs.Follows.{ring_follows, commands_follow, refusal_follows}
use Rattle.guarantees.proofs.Because.{refused_because, stops_because, reason_told}
use Rattle.guarantees.proofs.Leaves.{read_leaves, translate_leaves}
use Rattle.guarantees.proofs.Unsound.{unsound_answers_1, sound_never_1, no_unit_answers_1, refused_configuration}
use Rattle.guarantees.proofs.Again.{tries_again}
use Rattle.guarantees.proofs.Later.{tried_later}
use Rattle.guarantees.proofs.Stalled.{stalled_stores, stalled_kept, stalled_exactly, calls_stalled_exactly, stalled_shown, stalled_unread}
use Rattle.guarantees.proofs.Profiles.{base_as_01, strict_as_01, base_led, base_configured, base_call_configured, profiles_alike, verdicts_alike, calls_begin, calls_go_on}
use Rattle.guarantees.proofs.Traces.{base_traces, traces_alike}
use Rattle.guarantees.proofs.Holding.{held_stores, no_such_profile, call_no_such_profile, call_no_such_setting, another_layout, layout_before, layout_1}
use Rattle.guarantees.proofs.ExampleAlike.{example_strict}

pub theorems : Theorems
theorems =
    record {
      mappings_in_force = mappings_in_force;
      calls_in_force = calls_in_force;
      led_by_calls = led_by_calls;
      example_by_entries = example_by_entries;
      example_by_calls = example_by_calls;
      base_as_01 = base_as_01;
      base_led = base_led;
      base_configured = base_configured;
      base_call_configured = base_call_configured;
      base_traces = base_traces;
      held_stores = held_stores;
      stalled_stores = stalled_stores;
      stalled_kept = stalled_kept;
      stalled_exactly = stalled_exactly;
      calls_stalled_exactly = calls_stalled_exactly;
      stalled_shown = stalled_shown;
      stalled_unread = stalled_unread;
      sound_stalled = same_sound;
      strict_as_01 = strict_as_01;
      no_such_profile = no_such_profile;
      call_no_such_profile = call_no_such_profile;
      call_no_such_setting = call_no_such_setting;
      profiles_alike = profiles_alike;
      verdicts_alike = verdicts_alike;
      calls_begin = calls_begin;
      calls_go_on = calls_go_on;
      traces_alike = traces_alike;
      example_strict = example_strict;
      another_layout = another_layout;
      layout_before = layout_before;
      layout_1 = layout_1;
      actions_given = actions_given;
      call_actions_given = call_actions_given;
      actions_firm = actions_firm;
      answered_entries = answered_entries;
      firm_entries = firm_entries;
      lent_writes = lent_writes;
      call_writes = call_writes;
      ring_kept = ring_kept;
      commands_kept = commands_kept;
      refusal_kept = refusal_kept;
      ring_follows = ring_follows;
      commands_follow = commands_follow;
      refusal_follows = refusal_follows;
      numbered = numbered;
      one_reason = one_reason;
      not_zero = not_zero;
      folds = folds;
      folded_only = folded_only;
      refused_because = refused_because;
      stops_because = stops_because;
      reason_told = reason_told;
      read_leaves = read_leaves;
      translate_leaves = translate_leaves;
      unsound_answers_1 = unsound_answers_1;
      sound_never_1 = sound_never_1;
      no_unit_answers_1 = no_unit_answers_1;
      refused_configuration = refused_configuration;
      tries_again = tries_again;
      tried_later = tried_later;
    }
