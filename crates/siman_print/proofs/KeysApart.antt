-- No line has a key twice, whatever the kind of its PDU.
use Rattle.std.proofs.Common.{◌≡◌, ℕ, true, List, [], ◌∷◌, ◌++◌, codes, Option, Some, None, refl}
use Rattle.siman_pdus.specs.declared.pdu.Body.{Body}
use Rattle.siman_pdus.specs.declared.pdu.Body.TheVariants.{CreateEntity, RemoveEntity, StartResume, StopFreeze, Acknowledge, ActionRequest, ActionResponse, DataQuery, SetData, DataPdu, EventReport, Comment}
use Rattle.siman_pdus.specs.declared.pdu.Pdu.{Pdu}
use Rattle.siman_print.specs.Keys.{has_no_key_twice}
use Rattle.siman_print.specs.Line.{Number, Field, Bare, Line, opened_line}
use Rattle.exercise_model.specs.Entry.{Entry, Sent, Received, Told}
use Rattle.exercise_model.specs.Meaning.{meaning}
use Rattle.siman_print.specs.Head.{head_line, header_fields, identifier_field, kind_field, body_fields}
use Rattle.siman_print.specs.EntryLines.{done_fields, meant_fields, entry_line}

-- the fields of a head, with this body
abbrev fields_with : Pdu → Body → List Field
fields_with pdu body = header_fields pdu ++ identifier_field (codes "from") pdu.origin ∷ identifier_field (codes "to") pdu.target ∷ body_fields body

-- the line of an entry with these fields of a datagram
abbrev meant_line : ℕ → List ℕ → ℕ → ℕ → List Field → Line
meant_line i did s stamp meant = opened_line (codes "entry") (Bare (codes "entry") (Number i)) (done_fields did s stamp ++ meant)

-- a body brings no key that is there, behind a head and behind what was done with the datagram
body_apart : (i : ℕ) (did : List ℕ) (s stamp : ℕ) (pdu : Pdu) (body : Body)
    → (has_no_key_twice (opened_line (codes "pdu") (kind_field pdu) (fields_with pdu body)) ≡ true)
    × (has_no_key_twice (meant_line i did s stamp (kind_field pdu ∷ (fields_with pdu body))) ≡ true)
body_apart i did s stamp pdu (CreateEntity request) = (refl, refl)
body_apart i did s stamp pdu (RemoveEntity request) = (refl, refl)
body_apart i did s stamp pdu (StartResume real sim request) = (refl, refl)
body_apart i did s stamp pdu (StopFreeze real reason behaviour request) = (refl, refl)
body_apart i did s stamp pdu (Acknowledge flag response request) = (refl, refl)
body_apart i did s stamp pdu (ActionRequest request action datums) = (refl, refl)
body_apart i did s stamp pdu (ActionResponse request status datums) = (refl, refl)
body_apart i did s stamp pdu (DataQuery request interval ids) = (refl, refl)
body_apart i did s stamp pdu (SetData request datums) = (refl, refl)
body_apart i did s stamp pdu (DataPdu request datums) = (refl, refl)
body_apart i did s stamp pdu (EventReport event datums) = (refl, refl)
body_apart i did s stamp pdu (Comment datums) = (refl, refl)

pub head_apart : (pdu : Pdu) → has_no_key_twice (head_line pdu) ≡ true
head_apart pdu = (body_apart 0 [] 0 0 pdu pdu.body).0

meant_apart : (i : ℕ) (did : List ℕ) (s stamp : ℕ) (b : List ℕ) (meant : Option Pdu) → has_no_key_twice (meant_line i did s stamp (meant_fields b meant)) ≡ true
meant_apart i did s stamp b None = refl
meant_apart i did s stamp b (Some pdu) = (body_apart i did s stamp pdu pdu.body).1

pub entry_apart : (x i : ℕ) (entry : Entry) → has_no_key_twice (entry_line x i entry) ≡ true
entry_apart x i (Sent s stamp b) = meant_apart i (codes "sent") s stamp b (meaning x b)
entry_apart x i (Received s stamp b) = meant_apart i (codes "received") s stamp b (meaning x b)
entry_apart x i (Told s e y) = refl
