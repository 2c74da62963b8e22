use Rattle.siman_console.proofs.Conversions.{report_alike, list_alike, due_alike, listed_alike}
use Rattle.siman_console.proofs.laws.conversion_keeps_answers.Goals as goal

pub returns : goal.returns
returns c = record { report = report_alike; blocked = list_alike; checked = due_alike; listed = listed_alike }
