-- The head of a PDU: the name of its kind, its header, its two identifiers, the fields of its body and the counts of its records.
use Rattle.std.specs.Prelude.{ℕ, List, [], ◌∷◌, ◌++◌, length, codes}
use Rattle.dis_records.specs.Header.{version_code}
use Rattle.dis_records.specs.Texts.{entity_text, clock_text, kind_text}
use Rattle.dis_records.specs.declared.entity.EntityId.{EntityId}
use Rattle.dis_records.specs.declared.clock_time.ClockTime.{ClockTime}
use Rattle.siman_print.specs.Line.{Number, Word, Field, Bare, Keyed, Line, opened_line}
use Rattle.siman_pdus.specs.declared.pdu.Body.{Body}
use Rattle.siman_pdus.specs.declared.pdu.Body.TheVariants.{CreateEntity, RemoveEntity, StartResume, StopFreeze, Acknowledge, ActionRequest, ActionResponse, DataQuery, SetData, DataPdu, EventReport, Comment}
use Rattle.siman_pdus.specs.declared.pdu.Pdu.{Pdu}
use Rattle.siman_pdus.specs.DatumLists.{DatumLists, IdLists}
use Rattle.siman_pdus.specs.Spelling.{body_kind}

-- KEY=N
abbrev pub number_field : List ℕ → ℕ → Field
number_field key n = Keyed key (Number n)

-- KEY=SITE:APPLICATION:ENTITY
abbrev pub identifier_field : List ℕ → EntityId → Field
identifier_field key id = Keyed key (Word (entity_text id))

-- KEY=HOUR/PAST
abbrev pub time_field : List ℕ → ClockTime → Field
time_field key t = Keyed key (Word (clock_text t))

-- the number of fixed and variable records, or identifiers
abbrev pub counts : ℕ → ℕ → List Field
counts fixed variable = number_field (codes "fixed") fixed ∷ number_field (codes "variable") variable ∷ []

abbrev pub datum_counts : DatumLists → List Field
datum_counts d = counts (length d.fixed) (length d.variable)

abbrev pub id_counts : IdLists → List Field
id_counts d = counts (length d.fixed) (length d.variable)

abbrev pub body_fields : Body → List Field
body_fields (CreateEntity request) = number_field (codes "request") request ∷ []
body_fields (RemoveEntity request) = number_field (codes "request") request ∷ []
body_fields (StartResume real sim request) = time_field (codes "real") real ∷ time_field (codes "sim") sim ∷ number_field (codes "request") request ∷ []
body_fields (StopFreeze real reason behaviour request) =
    time_field (codes "real") real ∷ number_field (codes "reason") reason ∷ number_field (codes "behaviour") behaviour ∷ number_field (codes "request") request ∷ []
body_fields (Acknowledge flag response request) = number_field (codes "flag") flag ∷ number_field (codes "response") response ∷ number_field (codes "request") request ∷ []
body_fields (ActionRequest request action datums) = number_field (codes "request") request ∷ number_field (codes "action") action ∷ datum_counts datums
body_fields (ActionResponse request status datums) = number_field (codes "request") request ∷ number_field (codes "result") status ∷ datum_counts datums
body_fields (DataQuery request interval ids) = number_field (codes "request") request ∷ number_field (codes "interval") interval ∷ id_counts ids
body_fields (SetData request datums) = number_field (codes "request") request ∷ datum_counts datums
body_fields (DataPdu request datums) = number_field (codes "request") request ∷ datum_counts datums
body_fields (EventReport event datums) = number_field (codes "event") event ∷ datum_counts datums
body_fields (Comment datums) = datum_counts datums

abbrev pub header_fields : Pdu → List Field
header_fields pdu =
    number_field (codes "version") (version_code pdu.version) ∷ number_field (codes "exercise") pdu.exercise
    ∷ number_field (codes "stamp") pdu.stamp ∷ number_field (codes "status") pdu.status ∷ []

-- all fields of a PDU without its kind and its records
abbrev pub head_fields : Pdu → List Field
head_fields pdu =
    header_fields pdu ++ identifier_field (codes "from") pdu.origin ∷ identifier_field (codes "to") pdu.target ∷ body_fields pdu.body

abbrev pub kind_field : Pdu → Field
kind_field pdu = Bare (codes "kind") (Word (kind_text (body_kind pdu.body)))

abbrev pub head_line : Pdu → Line
head_line pdu = opened_line (codes "pdu") (kind_field pdu) (head_fields pdu)
