use Rattle.std.proofs.Common.{Result, Ok, Err, OnOk}
use Rattle.judge.proofs.LegalLemmas.{legal_where_unbroken}
use Rattle.transcript_reader.specs.Claims.{lines_of}
use Rattle.judge.proofs.deciding.decide.Goals as goal

OnOk-then : {T E P Q : Type 0} (r : Result T E) → (P → Q) → OnOk r P → OnOk r Q
OnOk-then (Ok x) f h = f h
OnOk-then (Err e) f h = h

pub returns-clause-ok : goal.returns-clause-ok
returns-clause-ok g c =
    OnOk-then c.check_order.result
    (legal_where_unbroken g.H.Host.meaning (lines_of c.args.claims.now) c.args.history.now c.in_ok-places.ensures.apart
    c.in_ok-check_members.ensures.ok c.in_ok-check_grounds.ensures.ok) c.check_order.ensures.ok
