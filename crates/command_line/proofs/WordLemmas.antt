-- What clap makes of the words.
use Rattle.std.proofs.Common.{◌≡◌, List, [], ◌∷◌, true, Option, None, refl, ap, sym, subst, ◌∙◌, inl, inr}
use Rattle.clap.proofs.OnLiterals.{clap_on_literals}
use Rattle.clap.specs.Kinds.{IsAmong, HasKind}
use Rattle.clap.specs.Words.{App, HasMatchesOf, Kinds, Row, Text, fault_of, is_simple, is_simple_and_free, kind_of, subcommand_of}
use Rattle.clap.specs.Words.{subcommand_rows_of}
use Rattle.clap.specs.declared.error.Error.{Error}
use Rattle.clap.specs.declared.error.kind.ErrorKind.{ErrorKind}
use Rattle.clap.specs.declared.error.kind.ErrorKind.TheVariants as kinds
use Rattle.clap.specs.declared.parser.matches.ArgMatches.{ArgMatches}
use Rattle.command_line.specs.Commands.{command_from, command_if, command_of, faults_of, subcommand_in, IsRefused, HasFound}
use Rattle.command_line.specs.Program.{
  program_app,
  with_replay,
  with_gen,
  with_node,
  with_sequencer,
  with_controller,
  with_client,
  with_cluster,
  with_check,
  with_observer,
  with_read,
  gen_app,
  site_app,
}
use Rattle.command_line.specs.Program.{member_app, node_app, controller_app, client_app, cluster_app, read_app}

pub program_is_simple : is_simple program_app ≡ true
unfolding clap_on_literals program_app with_replay with_gen with_node with_sequencer with_controller with_client with_cluster
    with_check with_observer with_read gen_app site_app member_app node_app controller_app client_app cluster_app read_app
program_is_simple = refl

pub program_is_free : is_simple_and_free program_app ≡ true
unfolding clap_on_literals program_app with_replay with_gen with_node with_sequencer with_controller with_client with_cluster
    with_check with_observer with_read gen_app site_app member_app node_app controller_app client_app cluster_app read_app
program_is_free = refl

refused_by : (texts : List Text) (k : ErrorKind) (ks : Kinds) → faults_of texts ≡ ks → IsAmong k ks → IsRefused texts
refused_by texts k [] is among = absurd among
refused_by texts k (x ∷ xs) is among = record { first = x; others = xs; faults = is }

-- an error that is no want of memory has one of the kinds
pub refused : (texts : List Text) (k : ErrorKind) → IsAmong k (faults_of texts) → IsRefused texts
refused texts k among = refused_by texts k (faults_of texts) refl among

pub taken : (a : App) (texts : List Text) (m : ArgMatches) → a ≡ program_app → (is_simple_and_free a ≡ true → fault_of a texts ≡ [])
    → HasMatchesOf a texts m → HasFound texts (subcommand_rows_of m)
unfolding faults_of subcommand_in
taken a texts m is kinds matches = record {
  faultless = sym (ap (λ x. fault_of x texts) is) ∙ kinds (ap is_simple_and_free is ∙ program_is_free);
  is = (matches (ap is_simple is ∙ program_is_simple)).1 ∙ ap (λ x. subcommand_of x texts) is;
}

refused_kind : (texts : List Text) (e : Error) → HasKind (faults_of texts) e → ¬ (kind_of e ≡ kinds.OutOfMemory) → IsRefused texts
refused_kind texts e (inl h) other = absurd (other h)
refused_kind texts e (inr among) other = refused texts (kind_of e) among

pub refused_words : (a : App) (texts : List Text) (e : Error) → a ≡ program_app
    → (is_simple_and_free a ≡ true → HasKind (fault_of a texts) e) → ¬ (kind_of e ≡ kinds.OutOfMemory) → IsRefused texts
unfolding faults_of
refused_words a texts e is has other =
    let P : Kinds → Type 0 = λ ks. HasKind ks e in
    refused_kind texts e (subst P (ap (λ x. fault_of x texts) is) (has (ap is_simple_and_free is ∙ program_is_free))) other

pub found_command : (texts : List Text) (found : Option (Text × List Row)) → HasFound texts found
    → command_from found ≡ command_of texts
found_command texts found has =
    ap command_from has.is ∙ sym (ap (λ k. command_if k (subcommand_in texts)) has.faultless)

pub refused_command : (texts : List Text) → IsRefused texts → None ≡ command_of texts
refused_command texts is = sym (ap (λ k. command_if k (subcommand_in texts)) is.faults)
