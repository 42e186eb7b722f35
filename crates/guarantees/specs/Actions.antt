-- WHAT IS HANDED OVER, by the history: the i-th action of a write is that of the i-th INT or CLEAR that it passed, to the LPI and the processor to which
-- the commands carried out before that one send its pair. Nothing here speaks of the unit's tables or of the run of its queue.
-- Assumes nothing.
use Rattle.std.specs.Prelude.{ℕ, ◌+◌, ◌≡◌, Bool, true, false, List, [], ◌∷◌, ◌++◌, map, get_or, take}
use Rattle.model.specs.declared.ItsDeviceId.{ItsDeviceId}
use Rattle.model.specs.declared.EventId.{EventId}
use Rattle.model.specs.declared.LpiId.{LpiId}
use Rattle.model.specs.declared.GicVcpuId.{GicVcpuId}
use Rattle.model.specs.declared.ItsState.{ItsState}
use Rattle.model.specs.declared.ItsAction.{ItsAction}
use Rattle.model.specs.declared.Command.{Command}
use Rattle.model.specs.declared.Command.TheVariants.{Mapd, Mapc, Mapti, Mapi, Movi, Int, Clear, Discard, Inv, Invall, Sync}
use Rattle.model.specs.declared.Written.{Written}
use Rattle.model.specs.Refusal.{write_numbers}
use Rattle.model.specs.Profile.{Profile}
use Rattle.model.specs.Queue.{Window}
use Rattle.model.specs.Passed.{commands_passed}
use Rattle.model.specs.Promise.{SentTo}
use Rattle.host.specs.Calls.{action_in}

-- how many commands were done, as the answer says
abbrev pub done_in : Written → ℕ
done_in r = (write_numbers r.answer).done

-- how many actions are handed over, as the answer says
abbrev pub actions_in : Written → ℕ
actions_in r = (write_numbers r.answer).actions

-- the commands that a write passed, the last one first: read from the window at the old CREADR and on, as many as were done
abbrev pub passed_by : Window → ItsState → Written → List Command
passed_by w u r = commands_passed w u.registers (done_in r)

-- and those that a call of its_write passed: as many as the fourth of the numbers told says
abbrev pub passed_told : Window → ItsState → List ℕ → List Command
passed_told w u told = commands_passed w u.registers (get_or told 3 0)

-- INT and CLEAR have one action, the other commands none
abbrev pub hands_over : Command → ℕ
hands_over (Mapd d bits valid) = 0
hands_over (Mapc c p valid) = 0
hands_over (Mapti d e l c) = 0
hands_over (Mapi d e c) = 0
hands_over (Movi d e c) = 0
hands_over (Int d e) = 1
hands_over (Clear d e) = 1
hands_over (Discard d e) = 0
hands_over (Inv d e) = 0
hands_over (Invall c) = 0
hands_over Sync = 0

-- how many INT and CLEAR are among the commands
abbrev pub ints_and_clears : List Command → ℕ
ints_and_clears [] = 0
ints_and_clears (x ∷ g) = hands_over x + ints_and_clears g

-- the action for this LPI and processor
abbrev pub an_action : GicVcpuId → LpiId → Bool → ItsAction
an_action p l pending = record { target = p; lpi = l; pending = pending }

-- `ActionsOf f h g handed`: f is the profile, h are the commands carried out before a write, g those that it passed, each time the last one first; handed are the actions
-- of g, the first one first.
pub data ActionsOf (f : Profile) (h : List Command) : List Command → List ItsAction → Type 0 where
  -- no command, no action
  none_passed : ActionsOf f h [] []
  -- one more INT: its action comes last, pending, to where the commands before it send its pair
  an_int : {g : List Command} {handed : List ItsAction} → ActionsOf f h g handed → (d : ItsDeviceId) (e : EventId) (l : LpiId) (p : GicVcpuId) →
      SentTo f (g ++ h) d e l p → ActionsOf f h (Int d e ∷ g) (handed ++ an_action p l true ∷ [])
  -- one more CLEAR: the same, not pending
  a_clear : {g : List Command} {handed : List ItsAction} → ActionsOf f h g handed → (d : ItsDeviceId) (e : EventId) (l : LpiId) (p : GicVcpuId) →
      SentTo f (g ++ h) d e l p → ActionsOf f h (Clear d e ∷ g) (handed ++ an_action p l false ∷ [])
  -- another command adds none
  another : {g : List Command} {handed : List ItsAction} → ActionsOf f h g handed → (x : Command) → hands_over x ≡ 0 → ActionsOf f h (x ∷ g) handed

-- What a write hands over, refused or not (02, A2). f is the unit's profile, h are the commands carried out before it, u is the unit that it was made to, r what it answered, and
-- left the row afterwards.
pub record ActionsGiven (f : Profile) (h : List Command) (w : Window) (u : ItsState) (r : Written) (left : List ItsAction) : Type 0 where
  -- the row's first records, as many as the answer says, are the actions of the INT and CLEAR that it passed
  pub handed_over : ActionsOf f h (passed_by w u r) (take (actions_in r) left)
  -- and the answer says k, the number of those INT and CLEAR
  pub as_many : actions_in r ≡ ints_and_clears (passed_by w u r)

-- The same of a call of its_write, refused or not, which leaves the numbers after in the row and tells the numbers told.
pub record CallActionsGiven (f : Profile) (h : List Command) (w : Window) (u : ItsState) (after : List ℕ) (told : List ℕ) : Type 0 where
  -- the row's first numbers, as many as the fifth of the numbers told says, are the actions of the INT and CLEAR that it passed
  pub handed_over : ActionsOf f h (passed_told w u told) (map action_in (take (get_or told 4 0) after))
  -- and that number is k, the number of those INT and CLEAR
  pub as_many : get_or told 4 0 ≡ ints_and_clears (passed_told w u told)
