-- What a new house is set up with, and the tables that it begins with.
use Rattle.std.specs.Prelude.{◌≡◌, ◌⊎◌, List, [], ℕ, None, IsSome}
use Rattle.house_rows.specs.declared.settings.Settings.{Settings}
use Rattle.house_rows.specs.Tables.{Tables, tables_of}
use Rattle.jiff.specs.Words.{read_whole}
use Rattle.settle.specs.Zoned.{IsPlainText}
use Rattle.steps.specs.Example.{example_table}
use Rattle.steps.specs.declared.fault.BandsFault.{BandsFault}
use Rattle.steps.specs.declared.fault.BandsFault.TheVariants.{Memory as NoMemory}
use Rattle.auction_words.specs.declared.command_line.HouseWords.{HouseWords}
use Rattle.auction_words.specs.declared.settings.SettingsFault.{SettingsFault}
use Rattle.auction_words.specs.declared.settings.SettingsFault.TheVariants.{Bands, Memory, Zone}

-- a zone can be read
abbrev pub IsReadable : List ℕ → Type 0
IsReadable zone = IsPlainText zone × IsSome (read_whole zone)

-- settings are those that words name: the bands of no file are the example table, and the zone can
-- be read
pub record IsSetBy (words : HouseWords) (settings : Settings) : Type 0 where
  pub bands : words.bands ≡ None → settings.bands ≡ example_table
  pub rate : settings.rate ≡ words.rate
  pub zone : settings.zone ≡ words.zone.now
  pub readable : IsReadable settings.zone

-- why words name no settings: memory was refused; the band table has a fault, which without a file
-- is that memory was refused for the example table; or the zone can't be read
abbrev pub IsUnset : HouseWords → SettingsFault → Type 0
IsUnset words fault = (fault ≡ Memory)
    ⊎ (((bands : BandsFault) × (fault ≡ Bands bands) × (words.bands ≡ None → bands ≡ NoMemory))
    ⊎ ((fault ≡ Zone) × ¬ (IsReadable words.zone.now)))

-- the tables of a house to which nothing has happened yet, with the settings that words name
abbrev pub IsNew : HouseWords → Tables → Type 0
IsNew words tables =
    (settings : Settings) × IsSetBy words settings × (tables ≡ tables_of settings [])
