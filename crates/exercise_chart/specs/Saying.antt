-- Summary of a PDU, as a picture shows it (profile).
use Rattle.siman_pdus.specs.declared.pdu.Pdu.{Pdu}
use Rattle.siman_pdus.specs.Spelling.{body_kind}
use Rattle.siman_pdus.specs.Role.{request_id_of}
use Rattle.exercise_review.specs.Word.{word_of}
use Rattle.exercise_chart.specs.declared.saying.Saying.{Saying}

abbrev pub pdu_summary : Pdu → Saying
pdu_summary p = record { kind = body_kind p.body; origin = p.origin; target = p.target; request = request_id_of p.body; word = word_of p.body }
