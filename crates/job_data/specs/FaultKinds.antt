-- The number of a kind of fault, and its text.
use Rattle.std.specs.Prelude.{ℕ, List, codes}
use Rattle.job_data.specs.declared.fault_kind.FaultKind.{FaultKind}
use Rattle.job_data.specs.declared.fault_kind.FaultKind.TheVariants.{ForeignByte, NoHeader, UnknownCommand, WrongWords, BeyondLimits, UnknownTree, WrongForm, FarFromFence, SizeBeforeFence}

-- the number of a kind of fault
abbrev pub kind_number : FaultKind → ℕ
kind_number ForeignByte = 1
kind_number NoHeader = 2
kind_number UnknownCommand = 3
kind_number WrongWords = 4
kind_number BeyondLimits = 5
kind_number UnknownTree = 6
kind_number WrongForm = 7
kind_number FarFromFence = 8
kind_number SizeBeforeFence = 9

-- what is wrong
abbrev pub kind_text : FaultKind → List ℕ
kind_text ForeignByte = codes "byte outside ASCII"
kind_text NoHeader = codes "header"
kind_text UnknownCommand = codes "unknown command"
kind_text WrongWords = codes "words"
kind_text BeyondLimits = codes "limit"
kind_text UnknownTree = codes "unknown tree"
kind_text WrongForm = codes "wrong form"
kind_text FarFromFence = codes "too many before a fence"
kind_text SizeBeforeFence = codes "size before a fence"
