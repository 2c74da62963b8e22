-- The rows of the specification for the values of the program, which borrow their words and lists.
use Rattle.std.specs.Prelude.{List, map, option_map}
use Rattle.dis_records.specs.Texts.{entity_text, clock_text, kind_text, state_text}
use Rattle.siman_print.specs.declared.value.Value.{Value as LentValue}
use Rattle.siman_print.specs.declared.value.Value.TheVariants as lent
use Rattle.siman_print.specs.declared.field.Field.{Field as LentField}
use Rattle.siman_print.specs.declared.field.Field.TheVariants as fields
use Rattle.siman_print.specs.declared.line.PrintedRow.{PrintedRow as LentLine}
use Rattle.siman_print.specs.Line.{Value, Number, Clock, Word, Named, Truth, Phrase, Ring, Missing, Field, Bare, Keyed, Spelt, Called, Line}
use Rattle.siman_print.specs.Spelled.{address_text}

abbrev pub value_of : LentValue → Value
value_of (lent.Number n) = Number n
value_of (lent.Clock n) = Clock n
value_of (lent.Word word) = Word word.now
value_of (lent.Kind kind) = Word (kind_text kind)
value_of (lent.State state) = Word (state_text state)
value_of (lent.Entity id) = Word (entity_text id.now)
value_of (lent.Address address) = Word (address_text address)
value_of (lent.Time time) = Word (clock_text time.now)
value_of (lent.Named n name) = Named n (option_map (λ word. word.now) name)
value_of (lent.Truth holds) = Truth holds
value_of (lent.Phrase phrase) = Phrase phrase.now
value_of (lent.Ring addresses) = Ring addresses.now
value_of lent.Missing = Missing

abbrev pub field_of : LentField → Field
field_of (fields.Bare key value) = Bare key.now (value_of value)
field_of (fields.Keyed key value) = Keyed key.now (value_of value)
field_of (fields.Spelt key value) = Spelt key.now (value_of value)
field_of (fields.Called word key value) = Called word.now key.now (value_of value)

abbrev pub fields_of : List LentField → List Field
fields_of items = map field_of items

abbrev pub line_of : LentLine → Line
line_of line = record { name = line.name.now; opening = option_map field_of line.opening; fields = fields_of line.fields.now }
