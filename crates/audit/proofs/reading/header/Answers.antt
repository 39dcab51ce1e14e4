use Rattle.std.proofs.Common.{Some, refl}
use Rattle.schedule_text.specs.Reading.{opened}
use Rattle.schedule_text.proofs.Fitting.{headers_fit}
use Rattle.audit.proofs.Headers.{header_read, header_refused}
use Rattle.audit.proofs.reading.header.Goals as goal

pub returns-in-Ok : goal.returns-in-Ok
returns-in-Ok c =
    let takes = rw (c.new-reader.ensures, c.new-source.ensures, c.in_ok-from_slice.ensures.items) at c.in-Ok.ensures.takes in
    let left = Some c.open.new.source.left in
    let is = header_read c.args.text.now c.requires.one c.requires.short c.open.new.self left c.in-Ok.config takes c.in-Ok.ensures.config in
    rw c.form.ensures (is, headers_fit c.args.text.now (opened c.open.new.self.header c.in-Ok.config) is)

pub returns-in-Err-BadLine : goal.returns-in-Err-BadLine
returns-in-Err-BadLine c =
    let same = c.in-Err-BadLine.field-0-is in
    let takes = rw (c.new-reader.ensures, c.new-source.ensures, c.in_ok-from_slice.ensures.items, same) at c.in-Err-BadLine.ensures.takes in
    let closed = rw c.new-reader.ensures at c.in-Err-BadLine.ensures.closed in
    let left = Some c.open.new.source.left in
    (refl, header_refused c.args.text.now c.requires.one c.requires.short c.open.new.self left c.in-Err-BadLine.field-0-0 c.in-Err-BadLine.field-0-1 takes closed)
