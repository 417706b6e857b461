-- A configuration as ten numbers. Every number is taken.
use Rattle.std.specs.Prelude.{ℕ, ◌%◌, cond, Option, None, Some, List, ltb, get_or}
use Rattle.registers.specs.declared.config.Config.{Config}
use Rattle.registers.specs.Config.{mask_of}

-- a number that is not 0 says that the value is set
abbrev pub if_set : ℕ → ℕ → Option ℕ
if_set on value = cond (ltb 0 on) (Some value) None

-- the two settings, and from the fifth number on the two filters, the own address and whether it is long, the second address and its mask
abbrev pub config_from : Option ℕ → Option ℕ → List ℕ → Config
config_from speed timing xs = record {
  speed = speed;
  timing = timing;
  analog_filter = ltb 0 (get_or xs 4 0);
  digital_filter = get_or xs 5 0 % 256;
  slave_address_1 = get_or xs 6 0 % 65536;
  address_11bits = ltb 0 (get_or xs 7 0);
  slave_address_2 = get_or xs 8 0 % 256;
  slave_address_mask = mask_of (get_or xs 9 0);
}

-- speed and timing are two numbers each: whether it is set, and its value
abbrev pub config_of : List ℕ → Config
config_of xs = config_from (if_set (get_or xs 0 0) (get_or xs 1 0)) (if_set (get_or xs 2 0) (get_or xs 3 0)) xs
