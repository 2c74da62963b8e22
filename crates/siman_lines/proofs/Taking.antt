-- What a station makes of the datagrams that it takes, one after the other.
use Rattle.std.proofs.Common.{◌≡◌, ℕ, List, [], ◌∷◌, ◌++◌, Option, Some, None, refl, ap, subst, ◌∙◌}
use Rattle.siman_pdus.specs.declared.pdu.Pdu.{Pdu}
use Rattle.siman_pdus.specs.Reading.{reading}
use Rattle.exercise_model.specs.Entry.{Entry, Received}
use Rattle.exercise_recording.specs.Writer.{WriterState}
use Rattle.siman_application.specs.AppProfile.{AppProfile}
use Rattle.siman_application.specs.Application.{ApplicationData, came}
use Rattle.siman_manager.specs.Book.{Book}
use Rattle.siman_stations.specs.declared.moment.Moment.{Moment}
use Rattle.siman_stations.specs.declared.turn.Node.{Node}
use Rattle.siman_stations.specs.Recording.{WritesOne}
use Rattle.siman_stations.specs.StationTurn.{sent_as, reply_due, turn_entries, RecordsAll, TakesBoth}
use Rattle.siman_lines.specs.LineDatagrams.{Datagrams}
use Rattle.siman_lines.specs.Serving.{requests_with, taken_with, reply_with, reply_at, entries_after, HasTaken}

-- Entries are recorded one after the other.

pub records_on : {R : Type 0} (records : R → Entry → R → Type 0) (xs ys : List Entry) (old mid new : R) → RecordsAll records xs old mid
    → RecordsAll records ys mid new → RecordsAll records (xs ++ ys) old new
records_on records [] ys old mid new g h = subst (λ r. RecordsAll records ys r new) g h
records_on records (x ∷ xs) ys old mid new g h = (g.0, g.1, records_on records xs ys g.0 mid new g.2 h)

pub record Split {R : Type 0} (records : R → Entry → R → Type 0) (xs ys : List Entry) (old new : R) : Type 0 where
  pub mid : R
  pub first : RecordsAll records xs old mid
  pub rest : RecordsAll records ys mid new

pub records_split : {R : Type 0} (records : R → Entry → R → Type 0) (xs ys : List Entry) (old new : R) → RecordsAll records (xs ++ ys) old new
    → Split records xs ys old new
records_split records [] ys old new h = record { mid = old; first = refl; rest = h }
records_split records (x ∷ xs) ys old new h =
    let s = records_split records xs ys h.0 new h.2 in record { mid = s.mid; first = (h.0, h.1, s.first); rest = s.rest }

-- One datagram.

pub takes_outfit : (o : Option Pdu) (old new : Node) → TakesBoth o old new → new.application.outfit ≡ old.application.outfit
takes_outfit None old new t = ap (λ (n : Node). n.application.outfit) t
takes_outfit (Some q) old new t = t.0.outfit

pub takes_came : (o : Option Pdu) (old new : Node) → TakesBoth o old new
    → came new.application ≡ requests_with old.application.outfit (came old.application) o
takes_came None old new t = ap (λ (n : Node). came n.application) t
takes_came (Some q) old new t = t.0.came_is

pub takes_book : (o : Option Pdu) (old new : Node) → TakesBoth o old new → new.manager ≡ taken_with old.manager o
takes_book None old new t = ap (λ (n : Node). n.manager) t
takes_book (Some q) old new t = t.1

pub reply_same : (a : ApplicationData) (o : Option Pdu) (stamp : ℕ) → reply_due a o stamp ≡ reply_with a.outfit (came a) o stamp
reply_same a None stamp = refl
reply_same a (Some q) stamp = refl

-- the reply after datagrams, of the halves as they are
pub reply_told : (s : ℕ) (at : Moment) (bs : Datagrams) (b : List ℕ) (before mid : Node) (old writer : WriterState) → HasTaken s at bs before mid old writer
    → reply_due mid.application (reading b) at.stamp ≡ reply_at before.application.outfit (came before.application) at.stamp bs b
reply_told s at bs b before mid old writer t =
    reply_same mid.application (reading b) at.stamp
    ∙ (ap (λ (a : AppProfile). reply_with a (came mid.application) (reading b) at.stamp) t.outfit
    ∙ ap (λ (ds : List Pdu). reply_with before.application.outfit ds (reading b) at.stamp) t.came_is)

pub taken_none : (s : ℕ) (at : Moment) (n : Node) (w : WriterState) → HasTaken s at [] n n w w
taken_none s at n w = record { outfit = refl; came_is = refl; manager = refl; entries = refl }

-- ONE MORE DATAGRAM is taken
pub taken_on : (s : ℕ) (at : Moment) (bs : Datagrams) (b : List ℕ) (before mid after : Node) (old writer new : WriterState)
    → HasTaken s at bs before mid old writer
    → RecordsAll WritesOne (turn_entries mid.application s at b) writer new → TakesBoth (reading b) mid after
    → HasTaken s at (b ∷ bs) before after old new
taken_on s at bs b before mid after old writer new t entries halves = record {
  outfit = takes_outfit (reading b) mid after halves ∙ t.outfit;
  came_is = takes_came (reading b) mid after halves
      ∙ (ap (λ (a : AppProfile). requests_with a (came mid.application) (reading b)) t.outfit
      ∙ ap (λ (ds : List Pdu). requests_with before.application.outfit ds (reading b)) t.came_is);
  manager = takes_book (reading b) mid after halves ∙ ap (λ (k : Book). taken_with k (reading b)) t.manager;
  entries = records_on WritesOne (entries_after before.application.outfit (came before.application) s at bs) _ old writer new t.entries
      (subst (λ (o : Option Pdu). RecordsAll WritesOne (Received s at.now b ∷ sent_as s at.now o) writer new) (reply_told s at bs b before mid old writer
      t) entries);
}
