-- The table of the gateway: what a request asks for, by its arguments.
use Rattle.std.specs.Prelude.{ℕ, List, [], ◌∷◌, ◌++◌, Bool, ◌&&◌, ◌||◌, codes, if◌then◌else◌}
use Rattle.std.specs.Str.{str_eq_ignore_ascii_case}
use Rattle.kv_host.specs.declared.op.TheConstants.{GET, PUT, DELETE, SWAP}
use Rattle.kv_host.specs.Spelling.{field}
use Rattle.kv_spelling.specs.Spell.{fits_key, fits_value}
use Rattle.resp.specs.Spelling.{bulk}
use Rattle.resp.specs.Replies.{simple, error, no_elements}
use Rattle.kv_resp.specs.declared.demand.Form.{Form}
use Rattle.kv_resp.specs.declared.demand.Form.TheVariants.{Value, Stored, Presence, Swapped}

pub data Action : Type 0 where
  -- the service's result of the op that these bytes spell is replied in this form
  Execute : (op : List ℕ) → (form : Form) → Action
  -- an observer's result for this key is replied in the form of a value
  ReadAt : (key : List ℕ) → Action
  -- what is known of the cluster is replied
  Info : Action
  -- these bytes are replied
  Answer : (reply : List ℕ) → Action
  -- they are replied, and the connection ends
  End : (reply : List ℕ) → Action

-- the word, whatever the case of its letters
abbrev pub is_word : List ℕ → List ℕ → Bool
is_word word name = str_eq_ignore_ascii_case word name

-- ---- what is said of all that is not served

abbrev pub bad_key : Action
bad_key = Answer (error (codes "ERR a key has 1 to 64 bytes"))

abbrev pub bad_value : Action
bad_value = Answer (error (codes "ERR a value has at most 256 bytes"))

abbrev pub unknown : Action
unknown = Answer (error (codes "ERR unknown command, or not with these arguments"))

-- ---- ops

-- a get or a delete
abbrev pub key_action : ℕ → List ℕ → Form → Action
key_action kind key form = if fits_key key then Execute (kind ∷ field key) form else bad_key

-- a read of an observer
abbrev pub read_action : List ℕ → Action
read_action key = if fits_key key then ReadAt key else bad_key

abbrev pub put_action : List ℕ → List ℕ → Form → Action
put_action key value form =
    if fits_key key then if fits_value value then Execute (PUT ∷ (field key ++ field value)) form else bad_value else bad_key

abbrev pub swap_action : List ℕ → List ℕ → List ℕ → Action
swap_action key old new =
    if fits_key key then
    if fits_value old && fits_value new then Execute (SWAP ∷ (field key ++ (field old ++ field new))) Swapped else bad_value
    else bad_key

-- ---- commands, by the number of what they are given

abbrev pub done : Action
done = Answer (simple (codes "OK"))

-- the commands that connections begin and end with, with any arguments
abbrev pub with_any : List ℕ → Action
with_any word =
    if is_word word (codes "quit") then End (simple (codes "OK"))
    else if is_word word (codes "client") then done
    else if is_word word (codes "command") || is_word word (codes "config") then Answer no_elements
    else if is_word word (codes "info") then Info
    else unknown

abbrev pub alone : List ℕ → Action
alone word = if is_word word (codes "ping") then Answer (simple (codes "PONG")) else with_any word

-- there is one database
abbrev pub selected : List ℕ → Action
selected number = if is_word number (codes "0") then done else Answer (error (codes "ERR DB index is out of range"))

unfoldable pub with_one : List ℕ → List ℕ → Action
with_one word first =
    if is_word word (codes "get") then key_action GET first Value
    else if is_word word (codes "exists") then key_action GET first Presence
    else if is_word word (codes "del") then key_action DELETE first Presence
    else if is_word word (codes "getdel") then key_action DELETE first Value
    else if is_word word (codes "getat") then read_action first
    else if is_word word (codes "ping") || is_word word (codes "echo") then Answer (bulk first)
    else if is_word word (codes "select") then selected first
    else with_any word

abbrev pub with_two : List ℕ → List ℕ → List ℕ → Action
with_two word key value =
    if is_word word (codes "set") then put_action key value Stored
    else if is_word word (codes "getset") then put_action key value Value
    else with_any word

-- of the options of `SET` the one that changes nothing but the reply
abbrev pub option_action : List ℕ → List ℕ → List ℕ → Action
option_action key value option = if is_word option (codes "get") then put_action key value Value else unknown

abbrev pub with_three : List ℕ → List ℕ → List ℕ → List ℕ → Action
with_three word key second third =
    if is_word word (codes "set") then option_action key second third
    else if is_word word (codes "cas") then swap_action key second third
    else with_any word

unfoldable pub asked : List (List ℕ) → Action
asked [] = unknown
asked (word ∷ []) = alone word
asked (word ∷ first ∷ []) = with_one word first
asked (word ∷ key ∷ value ∷ []) = with_two word key value
asked (word ∷ key ∷ second ∷ third ∷ []) = with_three word key second third
asked (word ∷ others) = with_any word
