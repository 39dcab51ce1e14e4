use Rattle.std.proofs.Common.{◌∙◌, ap}
use Rattle.schedule_text.specs.Stepping.{reading}
use Rattle.schedule_text.proofs.Takings.{reached, failed}
use Rattle.schedule_text.proofs.Turns.{needs_no_read, none_before}
use Rattle.schedule_text.proofs.reader.Reader.reach_line.Goals as goal
use Rattle.schedule_text.proofs.reader.Reader.reach_line.Goals.{in-Ok, in-Err-ReadFault, in-Err-NoMemory}

pub returns-clause-takes : goal.returns-clause-takes
returns-clause-takes g c =
    let inside = c.self.inside in
    let before = g.S.Source.left c.args.source.now in
    let left = g.S.Source.left c.next_line.new.source in
    rw (← c.self.view_is) (elim c.match-next_line.branch [
      | in-Ok w ↦ rw w.result-is (reached inside.header inside.lines c.next_line.new.self before left c.next_line.ensures.takes)
      | in-Err-ReadFault w ↦ rw w.result-is (failed inside.header inside.lines c.next_line.new.self before left c.next_line.ensures.takes)
      | in-Err-NoMemory w ↦ rw w.result-is (reached inside.header inside.lines c.next_line.new.self before left c.next_line.ensures.takes)
    ])

pub returns-clause-none_left : goal.returns-clause-none_left
returns-clause-none_left g c =
    let limit = c.next_line.ensures.takes.grows.most ∙ c.self.invariant.limit in
    elim c.match-next_line.branch [
      | in-Ok w ↦ rw w.result-is tt
      | in-Err-ReadFault w ↦
          let left = rw w.in-Err-ReadFault.field-0-is at w.in-Err-ReadFault.ensures.none_left in
          rw w.result-is (left.0, none_before c.self.inside.header c.next_line.new.self limit left.1)
      | in-Err-NoMemory w ↦ rw w.result-is tt
    ]

pub returns-clause-unread : goal.returns-clause-unread
returns-clause-unread g c =
    let inside = c.self.inside in
    let needs = needs_no_read inside.header inside.lines c.self.invariant.limit in
    rw (← c.self.view_is)
    (λ none. let still = c.next_line.ensures.unread (needs.1 none) in (still.0, ap (reading inside.header) still.1))
