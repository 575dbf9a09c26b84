-- What words ask for, and which numbers a task may name.
use Rattle.std.specs.Prelude.{◌≡◌, ◌≤◌, ℕ, Bool, List, None, Option, Some, codes, false, option_map, true, ⊤}
use Rattle.std.specs.Int.{IsInRange}
use Rattle.std.specs.Str.Parse.{IsNumeral, digits_value, without_leading_plus}
use Rattle.clap.specs.Matches.{found_of}
use Rattle.clap.specs.Simple.{subcommand_of}
use Rattle.clap.specs.Values.{kind_of}
use Rattle.clap.specs.Walk.{Row, Text, first_of, one_of, rows_of}
use Rattle.clap.specs.declared.error.Error.{Error}
use Rattle.clap.specs.declared.error.kind.ErrorKind.TheVariants.{OutOfMemory}
use Rattle.clap.specs.declared.parser.matches.ArgMatches.{ArgMatches}
use Rattle.house_rows.specs.Limits.{last_moment, most_cents, most_members}
use Rattle.auction_words.specs.CommandLine.{house_app}
use Rattle.auction_words.specs.declared.command_line.Beginning.{Beginning}
use Rattle.auction_words.specs.declared.command_line.Beginning.TheVariants.{House, New}
use Rattle.auction_words.specs.declared.command_line.HouseWords.{HouseWords}
use Rattle.auction_words.specs.declared.command_line.Task.{Task}
use Rattle.auction_words.specs.declared.command_line.Task.TheVariants.{Audit, Bands, Import, Init, Replay, Serve, Statement, Surplus, Upgrade}

-- a number that a member may have
abbrev pub IsMember : ℕ → Type 0
IsMember number = IsInRange 1 most_members number

-- a rate that a house may have
abbrev pub IsRate : ℕ → Type 0
IsRate rate = rate ≤ 2000

-- where runs begin with new houses, their rate is one
abbrev pub HasRate : Beginning → Type 0
HasRate (New house) = IsRate house.rate
HasRate (House file) = ⊤

-- the numbers of a task are in their ranges
abbrev pub IsWithin : Task → Type 0
IsWithin (Init file house) = IsRate house.rate
IsWithin (Serve file asked) = IsInRange 1 65535 asked.port × IsInRange 1 1000000 asked.count
IsWithin (Replay house asked) = IsRate house.rate
IsWithin (Import file asked) = IsMember asked.member × (asked.moment ≤ last_moment)
IsWithin (Statement file asked) = IsMember asked.member
IsWithin (Bands file asked) = asked.moment ≤ last_moment
IsWithin (Upgrade file) = ⊤
IsWithin (Audit begun asked) = HasRate begun × IsMember asked.member
IsWithin (Surplus begun asked) = HasRate begun × IsInRange 1 1000000 asked.place
    × (asked.maximum ≤ most_cents) × IsMember asked.member

-- ---- the matches of a subcommand

-- what `clap` found for the arguments, a row for each
abbrev pub rows_in : ArgMatches → List Row
rows_in words = rows_of (found_of words)

-- the value of an argument is this text
abbrev pub IsTextOf : Text → List Row → Text → Type 0
IsTextOf name rows text = first_of name rows ≡ Some text

-- the value of an argument is a decimal numeral of this number; a plus may stand first
abbrev pub IsNumberOf : Text → List Row → ℕ → Type 0
IsNumberOf name rows number = (text : Text) × (one_of name rows ≡ Some text)
    × IsNumeral 10 (without_leading_plus text)
    × (digits_value 10 (without_leading_plus text) ≡ number)

-- a flag is set or not, as its value says, which `clap` makes `true` where the flag is given
pub record IsFlag (name : Text) (rows : List Row) (is_set : Bool) : Type 0 where
  pub given : one_of name rows ≡ Some (codes "true") → is_set ≡ true
  pub left_out : one_of name rows ≡ Some (codes "false") → is_set ≡ false
  pub missing : one_of name rows ≡ None → is_set ≡ false

-- the arguments that set up a house name these words
pub record IsHouse (rows : List Row) (house : HouseWords) : Type 0 where
  pub bands : option_map (λ file. file.now) house.bands ≡ first_of (codes "bands") rows
  pub rate : IsNumberOf (codes "rate") rows house.rate
  pub zone : IsTextOf (codes "zone") rows house.zone.now

-- runs begin with the house in a file where one is named, and else with new houses
abbrev pub IsBeginning : List Row → Beginning → Type 0
IsBeginning rows (House file) = IsTextOf (codes "house") rows file.now
IsBeginning rows (New house) = (first_of (codes "house") rows ≡ None) × IsHouse rows house

-- no house whose rate is in its range is set up by the arguments
abbrev pub NamesNoHouse : List Row → Type 0
NamesNoHouse rows = (house : HouseWords) → IsHouse rows house → IsRate house.rate → ⊥

-- and no beginning of runs
abbrev pub NamesNoBeginning : List Row → Type 0
NamesNoBeginning rows = (begun : Beginning) → IsBeginning rows begun → HasRate begun → ⊥

-- the subcommand of this name, with what was found for its arguments, asks for a task
abbrev pub Asks : Text → List Row → Task → Type 0
Asks name rows (Init file house) = (name ≡ codes "init")
    × IsTextOf (codes "file") rows file.now
    × IsHouse rows house
Asks name rows (Serve file asked) = (name ≡ codes "serve")
    × IsTextOf (codes "file") rows file.now
    × IsNumberOf (codes "port") rows asked.port
    × IsNumberOf (codes "count") rows asked.count
Asks name rows (Replay house asked) = (name ≡ codes "replay")
    × IsFlag (codes "preset") rows asked.preset
    × IsFlag (codes "record") rows asked.record
    × IsHouse rows house
Asks name rows (Import file asked) = (name ≡ codes "import")
    × IsTextOf (codes "file") rows file.now
    × IsTextOf (codes "lots") rows asked.lots.now
    × IsNumberOf (codes "member") rows asked.member
    × IsNumberOf (codes "moment") rows asked.moment
Asks name rows (Statement file asked) = (name ≡ codes "statement")
    × IsTextOf (codes "file") rows file.now
    × IsNumberOf (codes "member") rows asked.member
    × IsTextOf (codes "from") rows asked.from.now
    × IsTextOf (codes "to") rows asked.to.now
    × IsFlag (codes "csv") rows asked.csv
Asks name rows (Bands file asked) = (name ≡ codes "bands")
    × IsTextOf (codes "file") rows file.now
    × IsTextOf (codes "csv") rows asked.csv.now
    × IsNumberOf (codes "moment") rows asked.moment
Asks name rows (Upgrade file) = (name ≡ codes "upgrade")
    × IsTextOf (codes "file") rows file.now
Asks name rows (Audit begun asked) = (name ≡ codes "audit")
    × IsTextOf (codes "left") rows asked.left.now
    × IsTextOf (codes "right") rows asked.right.now
    × IsNumberOf (codes "member") rows asked.member
    × IsBeginning rows begun
Asks name rows (Surplus begun asked) = (name ≡ codes "surplus")
    × IsTextOf (codes "list") rows asked.list.now
    × IsNumberOf (codes "place") rows asked.place
    × IsNumberOf (codes "maximum") rows asked.maximum
    × IsNumberOf (codes "member") rows asked.member
    × IsBeginning rows begun

-- it asks for no task whose numbers are in their ranges
abbrev pub AsksForNone : Text → List Row → Type 0
AsksForNone name rows = (task : Task) → Asks name rows task → IsWithin task → ⊥

-- ---- words

-- the subcommand that was met, if any, asks for a task
abbrev pub IsAskedBy : Option (Text × List Row) → Task → Type 0
IsAskedBy met task = (name : Text) × (rows : List Row) × (met ≡ Some (name, rows))
    × Asks name rows task

-- an error says that memory was refused, where the subcommand asks for such a task
abbrev pub IsMemoryIfAsked : Option (Text × List Row) → Error → Type 0
IsMemoryIfAsked met error =
    (task : Task) → IsAskedBy met task → IsWithin task → kind_of error ≡ OutOfMemory

-- words ask for a task: the first is the program's own name, and the command line reads the others
abbrev pub IsAsked : List Text → Task → Type 0
IsAsked words = IsAskedBy (subcommand_of house_app words)
