use Rattle.std.proofs.Common.{[], ◌∷◌, ◌++◌, sym, subst}
use Rattle.std.specs.Int.{w32}
use Rattle.dis_records.specs.Layout.{Number}
use Rattle.dis_records.specs.ClockTime.{clock_time_layout}
use Rattle.siman_pdus.specs.declared.pdu.Body.{Body}
use Rattle.siman_pdus.specs.Spelling.{body_layout}
use Rattle.siman_pdus.specs.Writing.{Puts}
use Rattle.siman_pdus.proofs.Texts.{puts_then}
use Rattle.siman_pdus.proofs.encoding.put_body.Goals as goal

pub returns-in-StartResume : goal.returns-in-StartResume
returns-in-StartResume c =
    let s = c.in-StartResume in
    subst (λ (b : Body). Puts (body_layout b) c.args.out.now c.put_u32.new.out) (sym s.is)
    (puts_then (clock_time_layout s.real) (clock_time_layout s.sim ++ (Number w32 s.request ∷ [])) _ _ _ c.put_time.ensures
    (puts_then (clock_time_layout s.sim) (Number w32 s.request ∷ []) _ _ _ c.put_time-in-StartResume.ensures c.put_u32.ensures))
