-- For samples that are computed: `unfolding open_texts` opens every definition that printing and reading the three texts goes through.
-- Assumes nothing.
use mathlib.Core.List.{flatten}
use Rattle.type_info.specs.Ascii.{ascii, equals}
use Rattle.type_info.specs.Names.{name_of}
use Rattle.type_info.specs.DeclaredType.{all_printable}
use Rattle.type_info.specs.All.{all_of}
use Rattle.model.specs.Reader.{read_if, read_name, ◌>>=◌, given, whole}
use Rattle.model.specs.Numbers.{digits, print_natural, print_signed, read_digits, read_natural, read_up_to, read_index, negative, read_signed, hex_digit, print_hex, hex_value, read_hex}
use Rattle.model.specs.Fields.{take_line, take_key, take_value, take_field, print_field, take_items, items_up_to, read_items, print_items}
use Rattle.model.specs.ListingText.{is_operation, print_row, read_operation, read_p4, take_row, print_listing, read_listing}
use Rattle.model.specs.CatalogueText.{is_declared, print_flag, print_record, read_flag, read_declared, take_record, print_catalogue, read_catalogue}
use Rattle.model.specs.AnswerText.{print_nullable, print_column, print_answer, data_types, read_data_type, read_nullable, take_column, take_answer, read_answer}

unfoldable pub open_texts : Unit {0}
unfolding flatten ascii equals name_of all_printable read_if read_name ◌>>=◌ given whole digits print_natural print_signed read_digits read_natural read_up_to read_index negative read_signed hex_digit print_hex hex_value read_hex take_line take_key take_value take_field print_field take_items items_up_to read_items print_items is_operation print_row read_operation read_p4 take_row print_listing read_listing is_declared print_flag print_record read_flag read_declared take_record print_catalogue read_catalogue print_nullable print_column print_answer data_types read_data_type read_nullable take_column take_answer read_answer
open_texts = tt
