-- The rule that each cause breaks, in one sentence.
use Rattle.std.specs.Prelude.{ℕ, List, codes}
use Rattle.exercise_model.specs.declared.cause.Cause.{Cause}
use Rattle.exercise_model.specs.declared.cause.Cause.TheVariants as causes

abbrev pub rule_text : Cause → List ℕ
rule_text causes.CountDiffers = codes "a certificate has one step for each entry"
rule_text causes.NoSuchRecord = codes "a step names an entry of the recording"
rule_text causes.OutOfOrder = codes "a step names the next entry of its station"
rule_text causes.BadLink = codes "a step's link is the entry that its event takes up or was sent as"
rule_text causes.WrongSender = codes "a station sends under its own address"
rule_text causes.ReusedIdentifier = codes "a request identifier of a station stands for one order"
rule_text causes.NoRequest = codes "an answer takes up a request that its station has received"
rule_text causes.WrongAnswer = codes "an answer answers the request that it takes up"
rule_text causes.ChangedAnswer = codes "under one key a station does not say both able and unable"
rule_text causes.Impossible = codes "a change is made to an entity that can be changed so"
rule_text causes.Stranger = codes "a datagram comes from a recorded station"
rule_text causes.NeverSent = codes "a datagram that is received was sent before"
rule_text causes.WrongState = codes "a station tells the state that its entity has"
