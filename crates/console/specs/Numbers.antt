-- The numbers that a process ends with.
use Rattle.std.specs.Prelude.{◌≡◌, ◌⊎◌, ℕ}
use Rattle.heap_base.specs.declared.status.Status.{Status}
use Rattle.heap_base.specs.declared.status.Status.TheVariants.{Clean, Violated, TraceFault, ReadFault, WriteFault, NoMemory, Usage}
use Rattle.console.specs.declared.words.TheConstants.{NO_WORDS}

-- the number of a status
abbrev pub number_of : Status → ℕ
number_of Clean = 0
number_of Violated = 1
number_of TraceFault = 2
number_of ReadFault = 3
number_of WriteFault = 4
number_of NoMemory = 5
number_of Usage = 6

-- the number where the words of the command line can't be had: memory is out, or one of them is no text
abbrev pub HasNoWords : ℕ → Type 0
HasNoWords number = (number ≡ number_of NoMemory) ⊎ (number ≡ NO_WORDS)

-- the number is that of a status, and this stands at that status
abbrev pub HasStatus : ℕ → (Status → Type 0) → Type 0
HasStatus number stands = (status : Status) × (number ≡ number_of status) × stands status
