-- What a trace tells of an output.
use Rattle.std.specs.Prelude.{◌==◌, ◌&&◌, Bool, false}
use Rattle.std.specs.Str.{bytes_eq}
use Rattle.nop_types.specs.declared.output.Actor.{Actor}
use Rattle.nop_types.specs.declared.output.Actor.TheVariants.{Client}
use Rattle.nop_types.specs.declared.output.Out.{Out}
use Rattle.nop_types.specs.declared.output.Out.TheVariants as outs
use Rattle.trace_rows.specs.declared.row.Gave.{Gave}
use Rattle.trace_rows.specs.declared.row.Gave.TheVariants as gaves
use Rattle.audit_laws.specs.Names.{is_number, names_dest}

-- who tells of an output of a step of this actor
abbrev pub teller : Actor → Out → Actor
teller from (outs.Submitted r) = Client r.client
teller from (outs.Accepted client id result) = Client client
teller from (outs.Reading client id observer key) = Client client
teller from (outs.Answered client id observer position result) = Client client
teller from _ = from

-- whether what was given is this output, whoever gave it
abbrev pub tells : Gave → Out → Bool
tells (gaves.Send to datagram) (outs.Send dest sent) = names_dest to dest && bytes_eq datagram sent
tells (gaves.Submit id op) (outs.Submitted r) = (id == r.id) && bytes_eq op r.op
tells (gaves.Accept id result) (outs.Accepted client other given) = (id == other) && bytes_eq result given
tells (gaves.Read id number key) (outs.Reading client other observer asked) = (id == other) && (is_number number observer && bytes_eq key asked)
tells (gaves.Answer id number position result) (outs.Answered client other observer at given) =
    (id == other) && (is_number number observer && ((position == at) && bytes_eq result given))
tells _ out = false
