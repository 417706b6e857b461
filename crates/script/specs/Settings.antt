-- The configuration that a line's settings are.
use Rattle.std.specs.Prelude.{ℕ, Bool, true, false, Option, None, Some, Result, Ok, unwrap_or, option_map}
use Rattle.registers.specs.declared.answers.Refusal.{Refusal}
use Rattle.registers.specs.declared.config.Config.{Config}
use Rattle.registers.specs.declared.config.SlaveAddressMask.TheVariants.{MaskNone}
use Rattle.registers.specs.Config.{with_filters, filtered}
use Rattle.script.specs.declared.settings.OwnAddress.{OwnAddress}
use Rattle.script.specs.declared.settings.OwnAddress.TheVariants.{Seven, Ten}
use Rattle.script.specs.declared.settings.Filter.{Filter}
use Rattle.script.specs.declared.settings.Filter.TheVariants.{Setter, Field}
use Rattle.script.specs.declared.settings.Settings.{Settings}

-- an own address that is not set is 0, and then it is none
abbrev pub own_address : Option OwnAddress → ℕ
own_address None = 0
own_address (Some (Seven address)) = address
own_address (Some (Ten address)) = address

abbrev pub is_ten_bits : Option OwnAddress → Bool
is_ten_bits None = false
is_ten_bits (Some (Seven address)) = false
is_ten_bits (Some (Ten address)) = true

-- the setter of the digital filter, which may refuse its number, or the field itself, as it is given
abbrev pub with_digital_filter : Option Filter → Config → Result Config Refusal
with_digital_filter None c = Ok c
with_digital_filter (Some (Setter cycles)) c = filtered cycles c
with_digital_filter (Some (Field value)) c = Ok (with_filters c.analog_filter value c)

-- what no option sets is as a plain configuration has it
abbrev pub without_digital_filter : Settings → Config
without_digital_filter s = record {
  speed = s.speed;
  timing = s.timing;
  analog_filter = unwrap_or s.analog_filter true;
  digital_filter = 0;
  slave_address_1 = own_address s.slave_address_1;
  address_11bits = is_ten_bits s.slave_address_1;
  slave_address_2 = unwrap_or (option_map (λ own2. own2.0) s.slave_address_2) 0;
  slave_address_mask = unwrap_or (option_map (λ own2. own2.1) s.slave_address_2) MaskNone;
}

abbrev pub configuration_of : Settings → Result Config Refusal
configuration_of s = with_digital_filter s.digital_filter (without_digital_filter s)
