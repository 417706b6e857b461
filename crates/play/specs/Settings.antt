-- What the calls of the configuration tell.
use Rattle.std.specs.Prelude.{ℕ, List, [], ◌∷◌, Some, None, Result, Ok, Err, codes, decimal}
use Rattle.registers.specs.declared.answers.Refusal.{Refusal}
use Rattle.registers.specs.declared.answers.Refusal.TheVariants.{NoRate}
use Rattle.registers.specs.declared.config.Config.{Config}
use Rattle.registers.specs.Config.{plain, filtered}
use Rattle.registers.specs.Timing.{timing_bits, period}
use Rattle.script.specs.PrintedLines.{hex_digits, spaced}
use Rattle.script.specs.Settings.{configuration_of}
use Rattle.script.specs.declared.calls.ConfigCall.{ConfigCall}
use Rattle.script.specs.declared.calls.ConfigCall.TheVariants.{Timing, Filter, Period}
use Rattle.play.specs.declared.settings.ConfigValue.{ConfigValue}
use Rattle.play.specs.declared.settings.ConfigValue.TheVariants.{Word as WordValue, Period as PeriodValue}

-- the timing word, or none where there is no rate
abbrev pub timing_answer : List ℕ → Result ConfigValue Refusal
timing_answer [] = Err NoRate
timing_answer (word ∷ _) = Ok (WordValue word)

-- `cfg timing`: the word of the line's configuration, or what the filter's setter refuses
abbrev pub timing_of : Result Config Refusal → ℕ → Result ConfigValue Refusal
timing_of (Ok c) clock = timing_answer (timing_bits c clock).values
timing_of (Err refusal) clock = Err refusal

-- `cfg filter`: the setting that the setter leaves, or its refusal
abbrev pub filter_setting : Result Config Refusal → Result ConfigValue Refusal
filter_setting (Ok c) = Ok (WordValue c.digital_filter)
filter_setting (Err refusal) = Err refusal

abbrev pub config_answer : ConfigCall → Result ConfigValue Refusal
config_answer (Timing c) = timing_of (configuration_of c.settings) c.clock
config_answer (Filter cycles) = filter_setting (filtered cycles (plain (Some 0) None))
config_answer (Period word) = Ok (PeriodValue (period word))

-- a word in eight hex digits, or a decimal number
abbrev pub config_answer_text : ConfigValue → List ℕ
config_answer_text (WordValue word) = spaced (codes "V") (hex_digits 8 word ∷ [])
config_answer_text (PeriodValue period) = spaced (codes "P") (decimal period ∷ [])
