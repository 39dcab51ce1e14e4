use Rattle.std.proofs.Common.{Err, ap, refl}
use Rattle.audit.proofs.Endings.{stays_where}
use Rattle.audit.proofs.Ends.{keeps_same}
use Rattle.audit.proofs.writing.write_answer.Goals as goal

pub returns-in-Err-ReadFault : goal.returns-in-Err-ReadFault
returns-in-Err-ReadFault g c =
    let count = g.K.Sink.fault_count c.args.sink.now in
    let same = rw c.in-Err-ReadFault.is at c.in-Err-ReadFault.field-0-is in
    rw (c.in-Err-ReadFault.is, same) (record { concludes = (refl, keeps_same (g.K.Sink.held c.args.sink.now)); count = stays_where count count _ refl (λ is. cc) })

pub returns-in-Err-WriteFault : goal.returns-in-Err-WriteFault
returns-in-Err-WriteFault g c = let no = rw c.in-Err-WriteFault.is at c.requires in let same = rw c.in-Err-WriteFault.is at c.in-Err-WriteFault.field-0-is in absurd (no (ap Err same))

pub returns-in-Err-NoMemory : goal.returns-in-Err-NoMemory
returns-in-Err-NoMemory g c =
    let count = g.K.Sink.fault_count c.args.sink.now in
    let same = rw c.in-Err-NoMemory.is at c.in-Err-NoMemory.field-0-is in
    rw (c.in-Err-NoMemory.is, same) (record { concludes = (refl, keeps_same (g.K.Sink.held c.args.sink.now)); count = stays_where count count _ refl (λ is. cc) })
