-- What was done outside, one action after the other (profile). For files in memory no contract says the bytes.
use Rattle.std.specs.Prelude.{ℕ, List, map, Option, Some, None, Result, Ok, Err}
use Rattle.std.specs.IoError.{error_kind}
use Rattle.std.specs.declared.io.Error.{Error}
use Rattle.std.specs.declared.io.ErrorKind.{ErrorKind}
use Rattle.http_server.specs.declared.log.Log.{Log}
use Rattle.siman_outside.specs.declared.endpoint.Endpoint.{Endpoint}
use Rattle.siman_outside.specs.Outside.{Stream, Found, Deed, Opens, Compares, Reads, LooksInto, Makes, Saves, Discards, LooksFor, Lines, Binds, Creates, Leaves}
use Rattle.siman_cases.specs.declared.done.Done.{Done}
use Rattle.siman_cases.specs.declared.done.Done.TheVariants as done

abbrev pub letters_of : Log ℕ (Unit {0}) → List ℕ
letters_of l = map (λ p. p.0) l.items

abbrev pub endpoints_of : Log Endpoint (Unit {0}) → List Endpoint
endpoints_of l = map (λ p. p.0) l.items

-- The result of opening, making or creating a file, from the error if it failed.
abbrev pub found_of : Option ErrorKind → Found
found_of None = Ok None
found_of (Some kind) = Err kind

abbrev pub found_as : {F : Type 0} → Result F Error → Found
found_as (Ok file) = Ok None
found_as (Err error) = Err (error_kind error)

abbrev pub deed_of : Done → Deed
deed_of (done.Opened name failed) = Opens (letters_of name) (found_of failed)
deed_of (done.Compared name same) = Compares (letters_of name) same
deed_of done.Read = Reads None
deed_of (done.LookedInto name filled) = LooksInto (letters_of name) filled
deed_of (done.Made name force failed) = Makes (letters_of name) force (found_of failed)
deed_of done.Saved = Saves None None (Ok tt)
deed_of (done.Unsaved kind) = Saves None None (Err kind)
deed_of done.Discarded = Discards None
deed_of (done.LookedFor name taken) = LooksFor (letters_of name) taken
deed_of (done.Created name failed) = Creates (letters_of name) (found_of failed)
deed_of (done.Lined stations had) = Lines stations had
deed_of (done.Bound bind peers listening had) = Binds bind (endpoints_of peers) listening had
deed_of done.Left = Leaves None (Ok tt)
deed_of (done.Unsettled kind) = Leaves None (Err kind)

abbrev pub deeds_of : Log Done (Unit {0}) → List Deed
deeds_of l = map (λ p. deed_of p.0) l.items

-- A writer whose contents no contract mentions.
abbrev pub untold : Stream
untold = record { old = None; new = None }
