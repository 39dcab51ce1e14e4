-- The list of hosts that a text is, or the first rule that it breaks.
use Rattle.std.specs.Prelude.{ℕ, ◌+◌, List, [], ◌∷◌, length, Bool, ◌||◌, if◌then◌else◌, Option, Some, None, Result, Ok, Err}
use Rattle.std.specs.Prelude.{codes, is_some, replicate, slice_set}
use Rattle.std.specs.declared.net.socket_addr.SocketAddr.{SocketAddr}
use Rattle.nop_types.specs.Configuration.{is_configuration}
use Rattle.line_fields.specs.Fields.{is_text, number_of}
use Rattle.host_list.specs.declared.entry.Entry.{Entry}
use Rattle.host_list.specs.declared.entry.Entry.TheVariants as entries
use Rattle.host_list.specs.declared.found.Found.{Found}
use Rattle.host_list.specs.declared.places.TheConstants.{PLACES}
use Rattle.host_list.specs.declared.list.HostList.{HostList}
use Rattle.host_list.specs.declared.rule.Refusal.{Refusal}
use Rattle.host_list.specs.declared.rule.Rule.{Rule}
use Rattle.host_list.specs.declared.rule.Rule.TheVariants.{WrongWords, WrongName, WrongNumber, WrongAddress, NameTwice, AddressTwice}
use Rattle.host_list.specs.declared.rule.Rule.TheVariants.{NoCluster, Hole, WrongCount}
use Rattle.host_list.specs.Addresses.{address_of}
use Rattle.host_list.specs.Places.{Addresses, address_at, controllers_in, counts_of, has_address, has_hole, named, observers_in, replicas_in, sequencers_in}
use Rattle.host_list.specs.Words.{lines_of, words_of}
pub use Rattle.nop_types.specs.Results.{◌>>=◌}

abbrev pub rule_number : Rule → ℕ
rule_number WrongWords = 1
rule_number WrongName = 2
rule_number WrongNumber = 3
rule_number WrongAddress = 4
rule_number NameTwice = 5
rule_number AddressTwice = 6
rule_number NoCluster = 7
rule_number Hole = 8
rule_number WrongCount = 9

-- where there is no value, the rule is broken
abbrev pub or_rule : {A : Type 0} → Rule → Option A → Result A Rule
or_rule rule None = Err rule
or_rule rule (Some x) = Ok x

-- ---- a line by itself

-- `cluster NUMBER`
abbrev pub cluster_entry : List ℕ → Result Entry Rule
cluster_entry value = or_rule WrongNumber (number_of value) >>= λ n. Ok (entries.Cluster n)

-- `NAME ADDRESS`, where the actor has this place
abbrev pub host_entry : ℕ → List ℕ → Result Entry Rule
host_entry place value = or_rule WrongAddress (address_of value) >>= λ a. Ok (entries.Host place a)

abbrev pub entry_of_two : List ℕ → List ℕ → Result Entry Rule
entry_of_two name value =
    if is_text (codes "cluster") name then cluster_entry value
    else or_rule WrongName (named name) >>= λ place. host_entry place value

abbrev pub entry_of_words : List (List ℕ) → Result Entry Rule
entry_of_words [] = Ok entries.Blank
entry_of_words (name ∷ value ∷ []) = entry_of_two name value
entry_of_words _ = Err WrongWords

-- what a line says, or the first of rules 1 to 4 that it breaks
unfoldable pub entry_of : List ℕ → Result Entry Rule
entry_of line = entry_of_words (words_of line)

-- ---- a line behind others

-- no line was read
abbrev pub nothing : Found
nothing = record { cluster = None; addresses = replicate PLACES None }

abbrev pub with_cluster : Found → ℕ → Result Found Rule
with_cluster f n = if is_some f.cluster then Err NameTwice else Ok (record f { cluster = Some n })

abbrev pub with_host : Found → ℕ → SocketAddr → Result Found Rule
with_host f place a =
    if is_some (address_at f.addresses place) then Err NameTwice
    else if has_address f.addresses a then Err AddressTwice
    else Ok (record f { addresses = slice_set f.addresses place (Some a) })

-- with what a line says, or the first of rules 5 and 6 that it breaks
abbrev pub with_entry : Found → Entry → Result Found Rule
with_entry f entries.Blank = Ok f
with_entry f (entries.Cluster n) = with_cluster f n
with_entry f (entries.Host place a) = with_host f place a

abbrev pub with_line : Found → List ℕ → Result Found Rule
with_line f line = entry_of line >>= with_entry f

-- ---- a text

abbrev pub refused_at : {A : Type 0} → ℕ → Result A Rule → Result A Refusal
refused_at line (Ok x) = Ok x
refused_at line (Err rule) = Err (record { line = line; rule = rule })

-- with these lines, the first of which has this number
abbrev pub with_lines : Found → ℕ → List (List ℕ) → Result Found Refusal
with_lines f number [] = Ok f
with_lines f number (line ∷ lines) = refused_at number (with_line f line) >>= λ g. with_lines g (number + 1) lines

-- a kind that is numbered without holes; places of clients may have them
abbrev pub any_hole : Addresses → Bool
any_hole xs = has_hole (replicas_in xs) || (has_hole (sequencers_in xs) || (has_hole (controllers_in xs) || has_hole (observers_in xs)))

abbrev pub complete : Addresses → ℕ → Result HostList Rule
complete xs cluster =
    if any_hole xs then Err Hole
    else if is_configuration (counts_of xs) then Ok (record { cluster = cluster; config = counts_of xs; addresses = xs })
    else Err WrongCount

abbrev pub completed : Found → Result HostList Rule
completed f = or_rule NoCluster f.cluster >>= complete f.addresses

abbrev pub list_in : List (List ℕ) → Result HostList Refusal
list_in lines = with_lines nothing 1 lines >>= λ f. refused_at (length lines) (completed f)

-- the list, or the first line that breaks a rule and the first one that it breaks; what only the whole text shows is refused at its last
-- line
unfoldable pub list_of : List ℕ → Result HostList Refusal
list_of text = list_in (lines_of text)
