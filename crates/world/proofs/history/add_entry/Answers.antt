use Rattle.std.proofs.Common.{◌++◌, ◌∷◌, [], ◌≡◌, ℕ, List, sym, ap, ◌∙◌}
use Rattle.nop_types.specs.declared.limits.TheConstants.{WINDOW}
use Rattle.nop_types.specs.declared.request.Request.{Request}
use Rattle.nop_types.specs.Tables.{with_result}
use Rattle.world.proofs.IdLemmas.{adds_noop, adds_old, adds_new}
use Rattle.world.proofs.history.add_entry.Goals as goal

pub returns-in_default : goal.returns-in_default
returns-in_default c = rw c.in_default.is (adds_noop c.args.table.now c.args.requests.now.items)

pub returns-then-not-takes : goal.returns-then-not-takes
returns-then-not-takes c = rw c.in-Req.is
    (adds_old c.args.table.now c.args.requests.now.items c.in-Req.request (sym c.takes.ensures ∙ c.if-not-takes.true))

pub returns : goal.returns
returns c =
    let old = c.args.requests.now.items in
    let r = c.in-Req.request in
    let pushed : c.push.new.self.items ≡ old ++ r ∷ [] =
    c.in_ok-push.ensures.items ∙ ap (λ (x : Request). old ++ x ∷ []) c.in_ok-try_clone.ensures in
    let nothing : c.from_vec-nothing.result ≡ [] = c.from_vec-nothing.ensures ∙ c.new.ensures.items in
    rw c.in-Req.is (adds_new c.args.table.now old c.keep.new.self c.push.new.self.items r (sym c.takes.ensures ∙ c.if-not-takes.false) pushed
    (c.in_ok-keep.ensures.table
    ∙ ap (λ (bytes : List ℕ). with_result WINDOW c.args.table.now r.client (record { id = r.id; result = bytes })) nothing))
