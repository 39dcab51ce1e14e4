-- What is said of words that are not taken.
use Rattle.std.specs.Prelude.{ℕ, List, codes}
use Rattle.service_tool.specs.declared.reason.Reason.{Reason}
use Rattle.service_tool.specs.declared.reason.Reason.TheVariants.{NoCommand, UnknownOption, NoValue, BadBase, BadReplicas, BadSequencers}
use Rattle.service_tool.specs.declared.reason.Reason.TheVariants.{BadId, BadObserver, BadTurns, NoId, NoLoad, BadClients, BadOps, BadOp}
use Rattle.service_tool.specs.declared.reason.Reason.TheVariants.{ExtraWord, LongInput}

abbrev pub text_of : Reason → List ℕ
text_of NoCommand = codes "want a command: an op, repl, status, load, op, text, result or words"
text_of UnknownOption = codes "no such option: see --help"
text_of NoValue = codes "want a value behind this option"
text_of BadBase = codes "want a port from 1024 to 65000"
text_of BadReplicas = codes "want 1, 3, 5 or 7 replicas"
text_of BadSequencers = codes "want 1 to 4 sequencers"
text_of BadId = codes "want a client number from 0 to 4294967295"
text_of BadTurns = codes "want a number of turns from 1 to 18446744073709551615"
text_of BadObserver = codes "want the number of an observer from 0 to 3"
text_of NoId = codes "want --id and a client number that was never used before"
text_of NoLoad = codes "want load CLIENTS OPS"
text_of BadClients = codes "want 1 to 16 clients"
text_of BadOps = codes "want 1 to 1000000000 ops"
text_of BadOp = codes "no op of this service, and no command: see --help"
text_of ExtraWord = codes "want no further word"
text_of LongInput = codes "want at most 4294967294 lines of at most 4096 bytes"
