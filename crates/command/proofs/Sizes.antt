-- The tables of a unit that is passed by value have their sizes: a function is told so of its parameter on entry.
-- Assumes nothing.
use mathlib.Core.List.{List}
use mir.Val.{Val}
use denote.Laws.{Is}
use denote.Struct.Declared.{row}
use borrow.Author.Rules.{rules}
use Rattle.model.specs.declared.ItsState.{ItsState}
use Rattle.model.specs.contracts.ItsState.{the_type}
use Rattle.model.proofs.TableLoops.{length_mapped}
use Rattle.model.proofs.CommandLaws.{Sized}

pub sized : (u : ItsState) {vs : List Val} → Is (row the_type) u vs → Sized u
sized u told = record { devices = search (rules, length_mapped); collections = search (rules, length_mapped); translations = search (rules, length_mapped) }
