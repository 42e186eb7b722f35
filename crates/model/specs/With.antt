-- No section of document 01: a unit, its registers and its configuration, each written out once, and each with one part changed. No other
-- definition or proof writes these records out, so that a new field of one of them changes this file, and those that give the field its value.
-- Assumes nothing.
use Rattle.std.specs.Prelude.{ℕ, Bool, List}
use Rattle.model.specs.declared.GicVcpuId.{GicVcpuId}
use Rattle.model.specs.declared.ItsDevice.{ItsDevice}
use Rattle.model.specs.declared.ItsCollection.{ItsCollection}
use Rattle.model.specs.declared.Translation.{Translation}
use Rattle.model.specs.declared.ItsConfig.{ItsConfig}
use Rattle.model.specs.declared.ItsRegisters.{ItsRegisters}
use Rattle.model.specs.declared.ItsState.{ItsState}

-- The unit.
abbrev pub a_unit : ItsConfig → ItsRegisters → List ItsDevice → List ItsCollection → List Translation → ItsState
a_unit k r ds cs ts = record { config = k; registers = r; devices = ds; collections = cs; translations = ts }

abbrev pub with_config : ItsState → ItsConfig → ItsState
with_config u k = a_unit k u.registers u.devices u.collections u.translations

abbrev pub with_registers : ItsState → ItsRegisters → ItsState
with_registers u r = a_unit u.config r u.devices u.collections u.translations

abbrev pub with_devices : ItsState → List ItsDevice → ItsState
with_devices u ds = a_unit u.config u.registers ds u.collections u.translations

abbrev pub with_collections : ItsState → List ItsCollection → ItsState
with_collections u cs = a_unit u.config u.registers u.devices cs u.translations

abbrev pub with_translations : ItsState → List Translation → ItsState
with_translations u ts = a_unit u.config u.registers u.devices u.collections ts

-- The registers: enabled or not, stalled or not (02, A4), CBASER, CREADR, CWRITER, and the eight BASER.
abbrev pub the_registers : Bool → Bool → ℕ → ℕ → ℕ → List ℕ → ItsRegisters
the_registers on stalled cbaser reader writer basers =
    record { enabled = on; stalled = stalled; cbaser = cbaser; creadr = reader; cwriter = writer; basers = basers }

abbrev pub with_enabled : ItsRegisters → Bool → ItsRegisters
with_enabled r on = the_registers on r.stalled r.cbaser r.creadr r.cwriter r.basers

abbrev pub with_stalled : ItsRegisters → Bool → ItsRegisters
with_stalled r stalled = the_registers r.enabled stalled r.cbaser r.creadr r.cwriter r.basers

-- CBASER with both offsets
abbrev pub with_ring : ItsRegisters → ℕ → ℕ → ℕ → ItsRegisters
with_ring r cbaser reader writer = the_registers r.enabled r.stalled cbaser reader writer r.basers

abbrev pub with_reader : ItsRegisters → ℕ → ItsRegisters
with_reader r reader = with_ring r r.cbaser reader r.cwriter

abbrev pub with_writer : ItsRegisters → ℕ → ItsRegisters
with_writer r writer = with_ring r r.cbaser r.creadr writer

abbrev pub with_basers : ItsRegisters → List ℕ → ItsRegisters
with_basers r basers = the_registers r.enabled r.stalled r.cbaser r.creadr r.cwriter basers

-- the unit with Stalled so
abbrev pub unit_stalled : ItsState → Bool → ItsState
unit_stalled u stalled = with_registers u (with_stalled u.registers stalled)

-- The configuration: LPI limit, budget, frame, profile, the count of processors, and sixteen of them.
abbrev pub a_config : ℕ → ℕ → ℕ → ℕ → ℕ → List GicVcpuId → ItsConfig
a_config limit budget frame profile count ps =
    record { lpi_limit = limit; command_budget = budget; frame_size = frame; profile = profile; processor_count = count; processors = ps }

abbrev pub with_profile : ItsConfig → ℕ → ItsConfig
with_profile k profile = a_config k.lpi_limit k.command_budget k.frame_size profile k.processor_count k.processors

abbrev pub with_processors : ItsConfig → List GicVcpuId → ItsConfig
with_processors k ps = a_config k.lpi_limit k.command_budget k.frame_size k.profile k.processor_count ps
