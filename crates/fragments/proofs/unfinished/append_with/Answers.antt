use Rattle.std.proofs.Common.{◌≡◌, ◌+◌, take, drop}
use Rattle.std.proofs.lemmas.List.{drop-drop}
use Rattle.fragments.proofs.Counting.{behind_set}
use Rattle.fragments.proofs.unfinished.append_with.Goals as goal

pub returns-clause-ok : goal.returns-clause-ok
returns-clause-ok c =
    let parts = c.args.parts.now in
    let i = c.args.index in
    let prefix : c.split_at.result.0.now ≡ take i parts = c.split_at.ensures.front in
    let back : c.split_at-2.result.1.now ≡ drop (i + 1) parts =
    rw (c.split_at-2.ensures.back, c.split_at.ensures.back) (drop-drop 1 i parts) in
    rw (c.in_ok-append_parts-2.ensures.ok, c.in_ok-extend_from_slice.ensures.items, c.in_ok-append_parts.ensures.ok, prefix, back)
    (behind_set c.args.to.now.items parts i c.args.payload.now c.requires)
