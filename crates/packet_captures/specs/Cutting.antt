-- What is said of a frame of which fewer bytes were kept, beside what is said of it with more of them.
use Rattle.std.specs.Prelude.{◌≡◌, ℕ, true, List, length, take, Option, Some, None}
use Rattle.packet_captures.specs.declared.carried.Addresses.{Addresses}
use Rattle.packet_captures.specs.Carried.{Contents, Other, Unsettled, User, Part, PlainDatagram, PlainFragment}
use Rattle.packet_captures.specs.UserDatagram.{is_whole}

-- The bytes are the first of others.
abbrev pub IsFront : List ℕ → List ℕ → Type 0
IsFront front b = (n : ℕ) × (front ≡ take n b)

-- A number that is known is this one.
abbrev pub IsIfKnown : Option ℕ → Option ℕ → Type 0
IsIfKnown None n = Unit {0}
IsIfKnown (Some m) n = n ≡ Some m

-- All that is known of a datagram is so of another, of which more is there.
pub record IsDatagramOf (d e : PlainDatagram) : Type 0 where
  pub addresses : e.addresses ≡ d.addresses
  pub source_port : IsIfKnown d.source_port e.source_port
  pub target_port : IsIfKnown d.target_port e.target_port
  pub size : IsIfKnown d.size e.size
  pub bytes : IsFront d.bytes e.bytes

-- The same of a fragment.
pub record IsFragmentOf (f g : PlainFragment) : Type 0 where
  pub addresses : g.addresses ≡ f.addresses
  pub identification : g.identification ≡ f.identification
  pub offset : g.offset ≡ f.offset
  pub more : g.more ≡ f.more
  pub size : g.size ≡ f.size
  pub bytes : IsFront f.bytes g.bytes

-- If it is carried between addresses, then between these.
abbrev pub IsBetween : Addresses → Contents → Type 0
IsBetween addresses Other = Unit {0}
IsBetween addresses (Unsettled None) = ⊥
IsBetween addresses (Unsettled (Some others)) = others ≡ addresses
IsBetween addresses (User d) = d.addresses ≡ addresses
IsBetween addresses (Part f) = f.addresses ≡ addresses

-- The bytes that were kept may say of a datagram or a fragment what it is, and more bytes that it is malformed.
abbrev pub IsDatagramOrOther : PlainDatagram → Contents → Type 0
IsDatagramOrOther d Other = Unit {0}
IsDatagramOrOther d (Unsettled addresses) = ⊥
IsDatagramOrOther d (User e) = IsDatagramOf d e
IsDatagramOrOther d (Part f) = ⊥

abbrev pub IsFragmentOrOther : PlainFragment → Contents → Type 0
IsFragmentOrOther f Other = Unit {0}
IsFragmentOrOther f (Unsettled addresses) = ⊥
IsFragmentOrOther f (User d) = ⊥
IsFragmentOrOther f (Part g) = IsFragmentOf f g

-- What fewer bytes say is what more of them say, or they leave it open.
abbrev pub Agrees : Contents → Contents → Type 0
Agrees Other more = more ≡ Other
Agrees (Unsettled None) more = Unit {0}
Agrees (Unsettled (Some addresses)) more = IsBetween addresses more
Agrees (User d) more = IsDatagramOrOther d more
Agrees (Part f) more = IsFragmentOrOther f more

-- What is carried is settled, and all its bytes are there.
abbrev pub IsWhole : Contents → Type 0
IsWhole Other = Unit {0}
IsWhole (Unsettled addresses) = ⊥
IsWhole (User d) = is_whole d ≡ true
IsWhole (Part f) = length f.bytes ≡ f.size
