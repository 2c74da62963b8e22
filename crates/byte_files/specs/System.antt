-- The system's reasons for failed calls, in words (profile).
use Rattle.std.specs.Prelude.{ℕ, List, codes}
use Rattle.std.specs.declared.io.ErrorKind.{ErrorKind}
use Rattle.std.specs.declared.io.ErrorKind.TheVariants as kinds

-- the system's reason for a failed call, in words
abbrev pub system_words : ErrorKind → List ℕ
system_words kinds.NotFound = codes "no such file or folder"
system_words kinds.PermissionDenied = codes "permission denied"
system_words kinds.ConnectionRefused = codes "refused by the other side"
system_words kinds.ConnectionReset = codes "reset by the other side"
system_words kinds.HostUnreachable = codes "no route"
system_words kinds.NetworkUnreachable = codes "no route"
system_words kinds.AddrInUse = codes "the address is in use"
system_words kinds.AddrNotAvailable = codes "not an address of this machine"
system_words kinds.NetworkDown = codes "the network is down"
system_words kinds.BrokenPipe = codes "the reader is gone"
system_words kinds.AlreadyExists = codes "exists already"
system_words kinds.WouldBlock = codes "busy"
system_words kinds.NotADirectory = codes "not a folder"
system_words kinds.IsADirectory = codes "is a directory"
system_words kinds.ReadOnlyFilesystem = codes "read-only file system"
system_words kinds.FilesystemLoop = codes "too many links on the way"
system_words kinds.InvalidInput = codes "not possible here"
system_words kinds.TimedOut = codes "timed out"
system_words kinds.StorageFull = codes "no space left"
system_words kinds.QuotaExceeded = codes "the disk quota is used up"
system_words kinds.FileTooLarge = codes "file too large"
system_words kinds.ResourceBusy = codes "in use"
system_words kinds.InvalidFilename = codes "the name is too long"
system_words kinds.Unsupported = codes "not possible here"
system_words kinds.OutOfMemory = codes "no memory left"
system_words _ = codes "failed"
