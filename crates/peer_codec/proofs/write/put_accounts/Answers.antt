use Rattle.std.proofs.Common.{◌++◌, List, length, sym, ap, ◌∙◌}
use Rattle.std.specs.Prelude.{ℕ}
use Rattle.std.specs.Int.{w32}
use Rattle.std.specs.List.{flat_map}
use Rattle.std.proofs.lemmas.List.{take_all}
use Rattle.nop_types.specs.Checkpoints.{saved_account}
use Rattle.nop_types.specs.declared.checkpoint.SavedClient.{SavedClient}
use Rattle.oum_codec.specs.Numbers.{be_bytes}
use Rattle.peer_codec.specs.Spelling.{account_bytes}
use Rattle.peer_codec.proofs.Accounts.{accounts_saved}
use Rattle.peer_codec.proofs.write.put_accounts.Goals as goal

pub returns : goal.returns
returns c =
    let clients = c.args.clients.now in
    let all = take_all c.loop-saved.saved-index clients c.loop-saved-test.false in
    c.loop-saved.invariant
    ∙ ap (λ (cs : List SavedClient). c.args.to.now.items ++ (be_bytes w32 (length clients) ++ flat_map (λ c. account_bytes (saved_account c)) cs)) all
    ∙ ap (λ (t : List ℕ). c.args.to.now.items ++ t) (sym (accounts_saved clients))
