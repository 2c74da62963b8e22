-- The names of the fields in which datagrams can differ (profile).
use Rattle.std.specs.Prelude.{ℕ, List, codes}
use Rattle.exercise_conflict.specs.declared.field.PduField.{PduField}
use Rattle.exercise_conflict.specs.declared.field.PduField.TheVariants as fields

-- the name of a field: the key that it has in the row of a PDU
abbrev pub field_text : PduField → List ℕ
field_text fields.Version = codes "version"
field_text fields.Time = codes "time"
field_text fields.Status = codes "status"
field_text fields.Kind = codes "kind"
field_text fields.From = codes "from"
field_text fields.To = codes "to"
field_text fields.Real = codes "real"
field_text fields.Sim = codes "sim"
field_text fields.Request = codes "request"
field_text fields.Reason = codes "reason"
field_text fields.Behaviour = codes "behaviour"
field_text fields.Flag = codes "flag"
field_text fields.Response = codes "response"
field_text fields.Action = codes "action"
field_text fields.Outcome = codes "result"
field_text fields.Interval = codes "interval"
field_text fields.Event = codes "event"
field_text fields.Fixed = codes "fixed"
field_text fields.Variable = codes "variable"
field_text fields.Padding = codes "padding"
