use Rattle.std.proofs.Common.{◌≡◌, refl, ap, set, ◌∙◌, List}
use Rattle.std.specs.Prelude.{remove}
use Rattle.fragments.specs.Parts.{Partial, with_part}
use Rattle.fragments.proofs.Goes.{found_last, found_more, read_at, remove-set}
use Rattle.fragments.proofs.queue.Queue.go_on.Goals as goal

pub returns-then-missing-eq1-clause-gives : goal.returns-then-missing-eq1-clause-gives
returns-then-missing-eq1-clause-gives c =
    let b = c.index-message.result.now in
    let q = c.args.self.now in
    let here = read_at q _ c.args.at b c.self.view_is c.requires c.index-message.ensures in
    let again = read_at q _ c.args.at c.index_mut-message.result.now c.self.view_is c.requires c.index_mut-message.ensures.value in
    let same : c.index_mut-message.result.now ≡ b = cc (here, again) in
    let e = found_last q c.args.fragment.now c.args.at b here (cc) (cc) (cc) in
    rw e (rw (c.in_ok-bytes.ensures.ok, c.as_slice.ensures, same) refl)

pub returns-then-missing-eq1-clause-kept : goal.returns-then-missing-eq1-clause-kept
returns-then-missing-eq1-clause-kept c =
    let b = c.index-message.result.now in
    let q = c.args.self.now in
    let here = read_at q _ c.args.at b c.self.view_is c.requires c.index-message.ensures in
    let again = read_at q _ c.args.at c.index_mut-message.result.now c.self.view_is c.requires c.index_mut-message.ensures.value in
    let same : c.index_mut-message.result.now ≡ b = cc (here, again) in
    let e = found_last q c.args.fragment.now c.args.at b here (cc) (cc) (cc) in
    rw e (c.remove.ensures.items ∙ remove-set _ c.args.at c.complete.new.self
    ∙ ap (λ (p : List Partial). remove p c.args.at) c.self.view_is)

pub returns-clause-gives : goal.returns-clause-gives
returns-clause-gives c =
    let b = c.index-message.result.now in
    let q = c.args.self.now in
    let here = read_at q _ c.args.at b c.self.view_is c.requires c.index-message.ensures in
    let again = read_at q _ c.args.at c.index_mut-message.result.now c.self.view_is c.requires c.index_mut-message.ensures.value in
    let same : c.index_mut-message.result.now ≡ b = cc (here, again) in
    let m = c.missing.ensures in
    let e = found_more q c.args.fragment.now c.args.at b here (cc) (cc) (rw same at (rw m at c.if-missing-eq1.false)) in
    rw e refl

pub returns-clause-kept : goal.returns-clause-kept
returns-clause-kept c =
    let b = c.index-message.result.now in
    let q = c.args.self.now in
    let f = c.args.fragment.now in
    let here = read_at q _ c.args.at b c.self.view_is c.requires c.index-message.ensures in
    let again = read_at q _ c.args.at c.index_mut-message.result.now c.self.view_is c.requires c.index_mut-message.ensures.value in
    let same : c.index_mut-message.result.now ≡ b = cc (here, again) in
    let m = c.missing.ensures in
    let e = found_more q f c.args.at b here (cc) (cc) (rw same at (rw m at c.if-missing-eq1.false)) in
    let put : c.put.new.self ≡ with_part b f.index f.payload = rw (c.in_ok-put.ensures.ok, same) refl in
    rw e (rw put (ap (λ (p : List Partial). set p c.args.at (with_part b f.index f.payload)) c.self.view_is))
