-- A request that is the first of its station under its identifier was not sent before.
use Rattle.std.proofs.Common.{◌≡◌, ℕ, List, Some, None, sym, ap, ◌∙◌}
use Rattle.std.specs.Prelude.{is_some, option_and_then, slice_get}
use Rattle.siman_pdus.specs.declared.pdu.Pdu.{Pdu}
use Rattle.exercise_model.specs.Entry.{Sent}
use Rattle.exercise_model.specs.Recording.{PlainRecording}
use Rattle.exercise_model.specs.History.{Send, event_of}
use Rattle.exercise_findings.specs.declared.requests.Identifier.{Identifier}
use Rattle.exercise_findings.specs.FirstSends.{IsNewSend}
use Rattle.exercise_findings.specs.Requests.{identifier_of, request_by, request_at, asks_at, first_request, IsSendOf}
use Rattle.exercise_findings.proofs.FirstSends.{new_by}
use Rattle.exercise_findings.proofs.Reused.{request_own}

request_of_send : (r : PlainRecording) (k : Identifier) (j t stamp : ℕ) (b : List ℕ) → slice_get r.entries j ≡ Some (Sent t stamp b)
    → request_at r k j ≡ request_by r k (Send t b)
unfolding request_at
request_of_send r k j t stamp b at = ap (option_and_then (λ e. request_by r k (event_of e))) at

pub new_request : (r : PlainRecording) (n s : ℕ) (q : Pdu) (k : Identifier) → IsSendOf r n s q → identifier_of s q ≡ Some k
    → first_request r k n ≡ None → IsNewSend r n
unfolding first_request
new_request r n s q k send is none =
    new_by r n (asks_at r k) none
    (λ j t u v b at here.
    ap is_some (request_of_send r k j t u b at ∙ sym (request_of_send r k n t v b here) ∙ request_own r n s q k send is))
