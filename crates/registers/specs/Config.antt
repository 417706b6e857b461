-- Document 01, config.rs: '`Config::new` and `Config::with_timing` are functions of the type', '`enable_digital_filter` takes 0..16', and answer 8, 'above 16
-- in the setter'. What the constructors and the setters make.
use Rattle.std.specs.Prelude.{ℕ, Bool, cond, leb, true, false, Option, Result, Ok, Err, List, [], ◌∷◌, get_or}
use Rattle.registers.specs.declared.config.Config.{Config}
use Rattle.registers.specs.declared.config.SlaveAddressMask.{SlaveAddressMask}
use Rattle.registers.specs.declared.config.SlaveAddressMask.TheVariants.{MaskNone, MaskOneBit, MaskTwoBits, MaskThreeBits, MaskFourBits, MaskFiveBits, MaskSixBits, MaskAllBits}
use Rattle.registers.specs.declared.answers.Refusal.{Refusal}
use Rattle.registers.specs.declared.answers.Refusal.TheVariants.{BadFilter}

-- the setter of the digital filter takes 0 to 16
abbrev pub filter_allowed : ℕ → Bool
filter_allowed cycles = leb cycles 16

abbrev pub mask_number : SlaveAddressMask → ℕ
mask_number MaskNone = 0
mask_number MaskOneBit = 1
mask_number MaskTwoBits = 2
mask_number MaskThreeBits = 3
mask_number MaskFourBits = 4
mask_number MaskFiveBits = 5
mask_number MaskSixBits = 6
mask_number MaskAllBits = 7

abbrev pub masks : List SlaveAddressMask
masks = MaskNone ∷ MaskOneBit ∷ MaskTwoBits ∷ MaskThreeBits ∷ MaskFourBits ∷ MaskFiveBits ∷ MaskSixBits ∷ []

-- 7 and above: all bits
abbrev pub mask_of : ℕ → SlaveAddressMask
mask_of n = get_or masks n MaskAllBits

-- a configuration with a speed or a timing, and nothing else set
abbrev pub plain : Option ℕ → Option ℕ → Config
plain speed timing = record {
  speed = speed;
  timing = timing;
  analog_filter = true;
  digital_filter = 0;
  slave_address_1 = 0;
  address_11bits = false;
  slave_address_2 = 0;
  slave_address_mask = MaskNone;
}

-- the two filters of a configuration
abbrev pub with_filters : Bool → ℕ → Config → Config
with_filters analog digital c = record {
  speed = c.speed;
  timing = c.timing;
  analog_filter = analog;
  digital_filter = digital;
  slave_address_1 = c.slave_address_1;
  address_11bits = c.address_11bits;
  slave_address_2 = c.slave_address_2;
  slave_address_mask = c.slave_address_mask;
}

abbrev pub with_own_address : ℕ → Bool → Config → Config
with_own_address address eleven_bits c = record {
  speed = c.speed;
  timing = c.timing;
  analog_filter = c.analog_filter;
  digital_filter = c.digital_filter;
  slave_address_1 = address;
  address_11bits = eleven_bits;
  slave_address_2 = c.slave_address_2;
  slave_address_mask = c.slave_address_mask;
}

abbrev pub with_second_address : ℕ → SlaveAddressMask → Config → Config
with_second_address address mask c = record {
  speed = c.speed;
  timing = c.timing;
  analog_filter = c.analog_filter;
  digital_filter = c.digital_filter;
  slave_address_1 = c.slave_address_1;
  address_11bits = c.address_11bits;
  slave_address_2 = address;
  slave_address_mask = mask;
}

-- the setter of the digital filter takes 0 to 16, and answers 8 above; the configuration is then as it was
abbrev pub filtered : ℕ → Config → Result Config Refusal
filtered cycles c = cond (filter_allowed cycles) (Ok (with_filters c.analog_filter cycles c)) (Err BadFilter)
