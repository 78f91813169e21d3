-- How a trace's file that wasn't opened is reported
use Rattle.std.specs.Prelude.{ℕ, List, codes}
use Rattle.std.specs.declared.io.ErrorKind.{ErrorKind}
use Rattle.std.specs.declared.io.ErrorKind.TheVariants.{NotFound, NotADirectory, PermissionDenied, ReadOnlyFilesystem, IsADirectory}
use Rattle.rambo_archive.specs.declared.opening.OpenFault.{OpenFault}
use Rattle.rambo_archive.specs.declared.opening.OpenFault.TheVariants.{Missing, Denied, Directory, InUse, NotEmpty, Unlocked, Other}

abbrev pub words_of : OpenFault → List ℕ
words_of Missing = codes "fault trace: no such folder"
words_of Denied = codes "fault trace: permission denied"
words_of Directory = codes "fault trace: it is a folder"
words_of InUse = codes "fault trace: another server writes to it"
words_of NotEmpty = codes "fault trace: it isn't empty, and --resume isn't given"
words_of Unlocked = codes "fault trace: it can't be locked"
words_of Other = codes "fault trace: it can't be opened"

-- why it wasn't opened, by what the system tells
abbrev pub fault_of : ErrorKind → OpenFault
fault_of NotFound = Missing
fault_of NotADirectory = Missing
fault_of PermissionDenied = Denied
fault_of ReadOnlyFilesystem = Denied
fault_of IsADirectory = Directory
fault_of _ = Other
