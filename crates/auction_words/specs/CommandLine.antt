-- The command line as `clap` reads it: the subcommands, and the files, options and flags that each
-- of them takes. It is the synopsis of docs/auction.1, as a value.
use Rattle.std.specs.Prelude.{codes, find, unwrap_or, List, [], ◌∷◌, Some, false, true}
use Rattle.std.specs.Str.{bytes_eq}
use Rattle.clap.specs.Words.{App, Rule, Shape, Text}
use Rattle.clap.specs.Simple.{new_rule, new_shape}
use Rattle.clap.specs.declared.builder.action.ArgAction.TheVariants.{Set, SetTrue}

-- ---- kinds of arguments

-- a file, given by its place, which has to be given
abbrev pub file_rule : Text → Rule
file_rule name = record (new_rule name) { value_names = 1; required = true; action = Some Set }

-- an option `--name VALUE`, which may be left out
abbrev pub option_rule : Text → Rule
option_rule name = record (new_rule name) {
  long = Some name;
  value_names = 1;
  action = Some Set;
}

-- an option that has to be given
abbrev pub required_rule : Text → Rule
required_rule name = record (option_rule name) { required = true }

-- an option that has this value where it is left out
abbrev pub default_rule : Text → Text → Rule
default_rule name value = record (option_rule name) { defaults = value ∷ [] }

-- an option that is refused beside others: a rule doesn't say which
abbrev pub in_place_rule : Text → Rule
in_place_rule name = record (option_rule name) { is_free = false }

-- a flag `--name`
abbrev pub flag_rule : Text → Rule
flag_rule name = record (new_rule name) { long = Some name; action = Some SetTrue }

-- ---- the subcommands

-- a subcommand that takes these arguments
abbrev pub subcommand_shape : Text → List Rule → Shape
subcommand_shape name rules = record (new_shape name) { rules = rules }

-- `[--bands CSV] [--rate N] [--zone RULE]`: what sets up a new house
abbrev pub setup_rules : List Rule
setup_rules = option_rule (codes "bands") ∷ default_rule (codes "rate") (codes "1000")
    ∷ default_rule (codes "zone") (codes "UTC0") ∷ []

-- `init FILE --bands CSV --rate N --zone RULE`
abbrev pub init_shape : Shape
init_shape = subcommand_shape (codes "init")
    (file_rule (codes "file") ∷ required_rule (codes "bands") ∷ required_rule (codes "rate")
    ∷ required_rule (codes "zone") ∷ [])

-- `serve FILE --port N --count N`
abbrev pub serve_shape : Shape
serve_shape = subcommand_shape (codes "serve")
    (file_rule (codes "file") ∷ required_rule (codes "port") ∷ required_rule (codes "count") ∷ [])

-- `replay [--preset] [--record] [--bands CSV] [--rate N] [--zone RULE]`
abbrev pub replay_shape : Shape
replay_shape = subcommand_shape (codes "replay")
    (flag_rule (codes "preset") ∷ flag_rule (codes "record") ∷ setup_rules)

-- `import FILE LOTS --member N --moment N`
abbrev pub import_shape : Shape
import_shape = subcommand_shape (codes "import")
    (file_rule (codes "file") ∷ file_rule (codes "lots") ∷ required_rule (codes "member")
    ∷ required_rule (codes "moment") ∷ [])

-- `statement FILE --member N --from DAY --to DAY [--csv]`
abbrev pub statement_shape : Shape
statement_shape = subcommand_shape (codes "statement")
    (file_rule (codes "file") ∷ required_rule (codes "member") ∷ required_rule (codes "from")
    ∷ required_rule (codes "to") ∷ flag_rule (codes "csv") ∷ [])

-- `bands FILE CSV --moment N`
abbrev pub bands_shape : Shape
bands_shape = subcommand_shape (codes "bands")
    (file_rule (codes "file") ∷ file_rule (codes "csv") ∷ required_rule (codes "moment") ∷ [])

-- `upgrade FILE`
abbrev pub upgrade_shape : Shape
upgrade_shape = subcommand_shape (codes "upgrade") (file_rule (codes "file") ∷ [])

-- `audit LEFT RIGHT --member N [--house FILE] [--bands CSV] [--rate N] [--zone RULE]`
abbrev pub audit_shape : Shape
audit_shape = subcommand_shape (codes "audit")
    (file_rule (codes "left") ∷ file_rule (codes "right") ∷ required_rule (codes "member")
    ∷ in_place_rule (codes "house") ∷ setup_rules)

-- `surplus LIST --place N --maximum N --member N [--house FILE] [--bands CSV] [--rate N]
-- [--zone RULE]`
abbrev pub surplus_shape : Shape
surplus_shape = subcommand_shape (codes "surplus")
    (file_rule (codes "list") ∷ required_rule (codes "place") ∷ required_rule (codes "maximum")
    ∷ required_rule (codes "member") ∷ in_place_rule (codes "house") ∷ setup_rules)

-- ---- the program

-- the program, which takes one subcommand
abbrev pub house_app : App
house_app = record {
  top = record (new_shape (codes "auction")) {
    is_leaf = false;
    has_version = true;
    subcommand_required = true;
  };
  subs = init_shape ∷ serve_shape ∷ replay_shape ∷ import_shape ∷ statement_shape ∷ bands_shape
      ∷ upgrade_shape ∷ audit_shape ∷ surplus_shape ∷ [];
}

-- the subcommand of a name, and of a name that is none the last one
abbrev pub shape_named : Text → Shape
shape_named name = unwrap_or (find (λ s. bytes_eq name s.name) house_app.subs) surplus_shape
