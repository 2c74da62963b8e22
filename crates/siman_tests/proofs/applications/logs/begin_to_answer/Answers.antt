use Rattle.std.proofs.Common.{◌≡◌, ℕ, ◌^◌, ◌<◌, List, [], ◌∷◌, Some, Result, Ok, Err, inl, refl, ap, sym, ◌∙◌, arith}
use Rattle.std.specs.Prelude.{IfOk, true, slice_index}
use Rattle.siman_pdus.specs.declared.pdu.Pdu.{Pdu}
use Rattle.siman_pdus.specs.Reading.{reading}
use Rattle.siman_pdus.specs.Role.{is_request_body}
use Rattle.exercise_model.specs.History.{History}
use Rattle.siman_application.specs.declared.fault.AppFault.{AppFault}
use Rattle.siman_application.specs.AppProfile.{AppProfile}
use Rattle.siman_application.specs.Ranges.{IsProfileInRange}
use Rattle.siman_application.specs.Application.{ApplicationData}
use Rattle.siman_application.specs.OwnLog.{OwnTurn, Orders, Takes, log_in, IsOwnLog, IsClear, AnswersHaveNoCause}
use Rattle.siman_tests.proofs.applications.logs.begin_to_answer.Goals as goal

-- the law at the two turns
stands : ((a : AppProfile) (s : ℕ) (ts : List OwnTurn) (h : History) (qs : List Pdu) → IsOwnLog a s ts h qs → IsClear a ts h → AnswersHaveNoCause a h)
    → (begun : AppProfile) (c b : List ℕ) (stamp : ℕ) → ((i : ℕ) → slice_index c i < 256) → ((i : ℕ) → slice_index b i < 256) → stamp < 2 ^ 32
    → (r : Result ApplicationData AppFault) → IfOk r (λ app. app.outfit ≡ begun) → IfOk r (λ app. IsProfileInRange app.outfit)
    → IfOk r (λ app. (o : Pdu) → reading c ≡ Some o → o.exercise ≡ begun.exercise → is_request_body o.body ≡ true
    → (q : Pdu) → reading b ≡ Some q → AnswersHaveNoCause app.outfit (log_in app.outfit 0 (Takes b q stamp ∷ Orders c o ∷ [])))
stands law begun c b stamp sent bytes small (Err fault) is ranges = tt
stands law begun c b stamp sent bytes small (Ok app) is ranges = λ o spelled exercise request q read.
    law app.outfit 0 (Takes b q stamp ∷ Orders c o ∷ []) (log_in app.outfit 0 (Takes b q stamp ∷ Orders c o ∷ [])) (q ∷ []) (record {
      outfit = ranges;
      turns = (
        record { bytes = bytes; read = read },
        small,
        (record { exercise = exercise ∙ sym (ap (λ (a : AppProfile). a.exercise) is); request = request; read = record { bytes = sent; read = spelled } }, tt),
      );
      log_is = refl;
      taken_is = refl;
    }) (inl tt)

pub returns : goal.returns
returns c =
    stands c.own_logs_stand.ensures.answers _ c.args.order.now c.args.request.now c.args.stamp (λ i. omega (arith, c.type_inv.order i)) (λ i. omega (arith, c.type_inv.request i)) (omega arith)
    c.begin.result c.begin.ensures.outfit c.begin.ensures.ranges
