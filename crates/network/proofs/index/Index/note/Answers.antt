use Rattle.std.proofs.Common.{sym, ◌∙◌}
use Rattle.std.specs.HashMap.{get_by}
use Rattle.std.specs.Str.{bytes_eq}
use Rattle.network.specs.Finding.{index_in}
use Rattle.network.proofs.FindLemmas.{known_stays, new_noted, updated_at}
use Rattle.network.proofs.index.Index.note.Goals as goal

pub returns-then-contains_key-clause-ok : goal.returns-then-contains_key-clause-ok
returns-then-contains_key-clause-ok c =
    known_stays (index_in c.args.self.now) c.args.datagram.now c.args.index (sym c.contains_key.ensures ∙ c.if-contains_key.true)

pub returns-clause-ok : goal.returns-clause-ok
returns-clause-ok c =
    let first = c.args.self.now.first in
    new_noted (index_in c.args.self.now) (λ bytes. get_by (λ key. bytes_eq bytes key.items) c.insert.new.self) c.args.datagram.now
    c.args.index (sym c.contains_key.ensures ∙ c.if-contains_key.false)
    (rw (← c.in_ok-key.ensures.items) (updated_at (λ key. key.items) c.in_ok-key.key.items first c.insert.new.self _
    c.in_ok-insert.ensures.updates))
