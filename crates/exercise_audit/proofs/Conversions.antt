-- A recording that was carried over to the second format is blocked as it was.
use Rattle.std.proofs.Common.{◌≡◌, ℕ, zero, suc, List, length, take, sym, ◌∙◌, inl, inr}
use Rattle.std.specs.Prelude.{◌↔◌}
use Rattle.exercise_model.specs.declared.form.Form.{Form}
use Rattle.exercise_model.specs.declared.form.Form.TheVariants.{First, Closed}
use Rattle.exercise_model.specs.Recording.{PlainRecording, IsRecording}
use Rattle.exercise_model.specs.History.{Event, History, past, log_of}
use Rattle.exercise_model.specs.Cause.{cause_of}
use Rattle.exercise_model.specs.Place.{log_before, own_event}
use Rattle.exercise_model.specs.Run.{Explains, IsStuck}
use Rattle.exercise_model.specs.Conversion.{converted}
use Rattle.exercise_model.proofs.Offered.{same_when_closed, stuck_alike, explained_alike}
use Rattle.exercise_check.specs.declared.certificate.Step.{Step}
use Rattle.exercise_check.specs.Goodness.{IsGood}
use Rattle.exercise_check.specs.Sequence.{sequence_of, entries_of_steps}
use Rattle.exercise_check.proofs.Offered.{good_alike, good_explains}
use Rattle.exercise_audit.specs.declared.blocks.Block.{Block}
use Rattle.exercise_audit.specs.declared.blocks.Audit.{Audit}
use Rattle.exercise_audit.specs.declared.blocks.Audit.TheVariants.{Explained, Blocked}
use Rattle.exercise_audit.specs.Audit.{IsBlock, AreBlocks, IsBlocked, IsAuditOf}
use Rattle.exercise_audit.specs.Time.{MayHappen, IsTimely}

-- the recording in another form
abbrev in_form : PlainRecording → Form → PlainRecording
in_form r f = record r { setting = record r.setting { form = f } }

-- in which each event has the same cause against it
abbrev AreAlike : PlainRecording → Form → Type 0
AreAlike r f = (h : History) (v : Event) → cause_of r.setting h v ≡ cause_of (in_form r f).setting h v

-- has the same blocks after a history
block_on : (r : PlainRecording) (f : Form) → AreAlike r f → (h : History) (s : ℕ) (b : Block) → IsBlock r h s b → IsBlock (in_form r f) h s b
unfolding own_event log_before
block_on r f alike h s b p = record {
  station = p.station;
  event = p.event;
  next = record { own = p.next.own; place = p.next.place };
  cause = sym (alike h p.event) ∙ p.cause;
}

blocks_on : (r : PlainRecording) (f : Form) → AreAlike r f → (h : History) (n : ℕ) (blocks : List Block) → AreBlocks r h n blocks
    → AreBlocks (in_form r f) h n blocks
unfolding log_of
blocks_on r f alike h zero blocks p = p
blocks_on r f alike h (suc s) blocks (inl p) = inl (p.0, blocks_on r f alike h s blocks p.1)
blocks_on r f alike h (suc s) blocks (inr p) =
    inr (p.0, p.1, p.2, blocks_on r f alike h s p.0 p.3, block_on r f alike h s p.1 p.4)

-- and so it is blocked alike, where it has the same ends and is explained alike
blocked_on : (r : PlainRecording) (f : Form) → AreAlike r f → ((h : History) → IsStuck r h ↔ IsStuck (in_form r f) h)
    → ((h : History) → Explains r h ↔ Explains (in_form r f) h) → (blocks : List Block) → IsBlocked r blocks → IsBlocked (in_form r f) blocks
blocked_on r f alike ends explained blocks p = record {
  unexplained = λ k e. p.unexplained k ((explained k).1 e);
  some_end = (p.some_end.0, (ends p.some_end.0).0 p.some_end.1);
  blocks_are = λ end stuck. blocks_on r f alike end (length r.setting.stations) blocks (p.blocks_are end ((ends end).1 stuck));
}

pub blocked_alike : (r : PlainRecording) (blocks : List Block) → r.setting.form ≡ First → IsBlocked r blocks ↔ IsBlocked (converted r) blocks
blocked_alike r blocks first = (
  blocked_on r Closed (λ h v. same_when_closed r.setting h v first) (λ h. stuck_alike r h first) (λ h. explained_alike r h first) blocks,
  blocked_on (converted r) r.setting.form (λ h v. sym (same_when_closed r.setting h v first))
      (λ h. let ends = stuck_alike r h first in (ends.1, ends.0)) (λ h. let both = explained_alike r h first in (both.1, both.0)) blocks,
)

-- the same entries may happen, and the same is the earliest
may_on : (r : PlainRecording) (f : Form) → AreAlike r f → (h : History) (i : ℕ) → MayHappen r h i → MayHappen (in_form r f) h i
unfolding own_event log_before
may_on r f alike h i may = record {
  station = may.station;
  event = may.event;
  next = record { own = may.next.own; place = may.next.place };
  allowed = sym (alike h may.event) ∙ may.allowed;
}

may_back : (r : PlainRecording) (f : Form) → AreAlike r f → (h : History) (i : ℕ) → MayHappen (in_form r f) h i → MayHappen r h i
unfolding own_event log_before
may_back r f alike h i may = record {
  station = may.station;
  event = may.event;
  next = record { own = may.next.own; place = may.next.place };
  allowed = alike h may.event ∙ may.allowed;
}

timely_on : (r : PlainRecording) (f : Form) → AreAlike r f → (steps : List Step) → IsTimely r steps → IsTimely (in_form r f) steps
unfolding sequence_of
timely_on r f alike steps timely k l j may differ =
    timely k l j (may_back r f alike (past (entries_of_steps r.entries (take k steps))) j may) differ

timely_back : (r : PlainRecording) (f : Form) → AreAlike r f → (steps : List Step) → IsTimely (in_form r f) steps → IsTimely r steps
unfolding sequence_of
timely_back r f alike steps timely k l j may differ =
    timely k l j (may_on r f alike (past (entries_of_steps r.entries (take k steps))) j may) differ

-- certificates are in the sequence of time alike
pub timely_alike : (r : PlainRecording) (steps : List Step) → r.setting.form ≡ First → IsTimely r steps ↔ IsTimely (converted r) steps
timely_alike r steps first =
    let alike : AreAlike r Closed = λ h v. same_when_closed r.setting h v first in
    (timely_on r Closed alike steps, timely_back r Closed alike steps)

pub answered_alike : (r : PlainRecording) (answer : Audit) → r.setting.form ≡ First → IsAuditOf r answer ↔ IsAuditOf (converted r) answer
answered_alike r (Explained certificate) first =
    let good = good_alike r certificate.steps.items first in
    let timely = timely_alike r certificate.steps.items first in
    (λ both. (good.0 both.0, timely.0 both.1), λ both. (good.1 both.0, timely.1 both.1))
answered_alike r (Blocked blocks) first = blocked_alike r blocks.items first

unexplained : (r : PlainRecording) (blocks : List Block) (steps : List Step) → IsRecording r → IsBlocked r blocks → IsGood r steps → ⊥
unexplained r blocks steps limits blocked good = blocked.unexplained (sequence_of r steps) (good_explains r limits steps good)

pub one_explained : (r : PlainRecording) (blocks : List Block) (steps : List Step) → IsRecording r → r.setting.form ≡ First → IsBlocked (converted r) blocks
    → IsGood r steps → ⊥
one_explained r blocks steps limits first blocked good = unexplained r blocks steps limits ((blocked_alike r blocks first).1 blocked) good

pub other_explained : (r : PlainRecording) (blocks : List Block) (steps : List Step) → IsRecording r → r.setting.form ≡ First → IsBlocked r blocks
    → IsGood (converted r) steps → ⊥
other_explained r blocks steps limits first blocked good = unexplained r blocks steps limits blocked ((good_alike r steps first).1 good)
