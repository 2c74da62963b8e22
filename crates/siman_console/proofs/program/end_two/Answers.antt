-- Each command answers, or meets a fault, and ends so.
use Rattle.siman_console.proofs.program.end_two.Goals as goal

pub returns-in-Check : goal.returns-in-Check
returns-in-Check g c =
    let did = c.say_of_files.ensures in
    rw c.in-Check.is (did.0, did.1, did.2, (c.say_of_files.result, did.3, (c.conclude.ensures.ends, c.conclude.ensures.fault, c.conclude.ensures.begun)))

pub returns-in-Audit : goal.returns-in-Audit
returns-in-Audit g c =
    let did = c.make_of_file.ensures in
    rw c.in-Audit.is (did.0, did.1, did.2, (c.make_of_file.result, did.3, (c.conclude-in-Audit.ensures.ends, c.conclude-in-Audit.ensures.fault, c.conclude-in-Audit.ensures.begun)))

pub returns-in-World : goal.returns-in-World
returns-in-World g c =
    let did = c.make_of_file-in-World.ensures in
    rw c.in-World.is (did.0, did.1, did.2, (c.make_of_file-in-World.result, did.3, (c.conclude-in-World.ensures.ends, c.conclude-in-World.ensures.fault, c.conclude-in-World.ensures.begun)))

pub returns-in-Convert : goal.returns-in-Convert
returns-in-Convert g c =
    let did = c.make_of_file-in-Convert.ensures in
    rw c.in-Convert.is (did.0, did.1, did.2, (c.make_of_file-in-Convert.result, did.3, (c.conclude-in-Convert.ensures.ends, c.conclude-in-Convert.ensures.fault, c.conclude-in-Convert.ensures.begun)))

pub returns-in-Mend : goal.returns-in-Mend
returns-in-Mend g c =
    let did = c.make_of_file-in-Mend.ensures in
    rw c.in-Mend.is (did.0, did.1, did.2, (c.make_of_file-in-Mend.result, did.3, (c.conclude-in-Mend.ensures.ends, c.conclude-in-Mend.ensures.fault, c.conclude-in-Mend.ensures.begun)))

pub returns-in-Export : goal.returns-in-Export
returns-in-Export g c =
    let did = c.make_of_file-in-Export.ensures in
    rw c.in-Export.is (did.0, did.1, did.2, (c.make_of_file-in-Export.result, did.3, (c.conclude-in-Export.ensures.ends, c.conclude-in-Export.ensures.fault, c.conclude-in-Export.ensures.begun)))

pub returns-in-Live : goal.returns-in-Live
returns-in-Live g c = rw c.in-Live.is c.end_live.ensures
