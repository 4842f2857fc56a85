-- What a fault tells: its layer, its number and its place, and the line that says so.
use Rattle.std.specs.Prelude.{ℕ, List, ◌++◌, codes, decimal}
use Rattle.player.specs.declared.fault.ListFault.{ListFault}
use Rattle.player.specs.declared.fault.ListFault.TheVariants.{Full}
use Rattle.player.specs.declared.fault.ImageWhy.{ImageWhy}
use Rattle.player.specs.declared.fault.ImageWhy.TheVariants.{Length, PairCount, PairOrder, PairOutside}
use Rattle.player.specs.declared.fault.TextWhy.{TextWhy}
use Rattle.player.specs.declared.fault.TextWhy.TheVariants.{Verb, Field, TooLarge, List as ListWhy}
use Rattle.player.specs.declared.fault.Fault.{Fault}
use Rattle.player.specs.declared.fault.Layer.{Layer}
use Rattle.player.specs.declared.fault.Layer.TheVariants.{Image as ImageLayer, Text as TextLayer, List as ListLayer}
use Rattle.player.specs.declared.fault.PlayerFault.{PlayerFault}
use Rattle.player.specs.declared.fault.PlayerFault.TheVariants.{Image, Text, Results}

abbrev pub ImageFault : Type 0
ImageFault = Fault ImageWhy

abbrev pub TextFault : Type 0
TextFault = Fault TextWhy

abbrev pub list_number : ListFault → ℕ
list_number Full = 16

-- how a list's fault is written where no text or player tells it
abbrev pub list_text : ListFault → List ℕ
list_text e = codes "no " ++ decimal (list_number e)

abbrev pub image_number : ImageWhy → ℕ
image_number Length = 9
image_number PairCount = 10
image_number PairOrder = 11
image_number PairOutside = 12

abbrev pub text_number : TextWhy → ℕ
text_number Verb = 13
text_number Field = 14
text_number TooLarge = 15
text_number (ListWhy e) = list_number e

-- the layer that refused: a full list is the list's fault, also while a text is read
abbrev pub text_layer : TextWhy → Layer
text_layer Verb = TextLayer
text_layer Field = TextLayer
text_layer TooLarge = TextLayer
text_layer (ListWhy e) = ListLayer

abbrev pub layer_of : PlayerFault → Layer
layer_of (Image e) = ImageLayer
layer_of (Text e) = text_layer e.why
layer_of (Results e turn) = ListLayer

abbrev pub number_of : PlayerFault → ℕ
number_of (Image e) = image_number e.why
number_of (Text e) = text_number e.why
number_of (Results e turn) = list_number e

abbrev pub place_of : PlayerFault → ℕ
place_of (Image e) = e.place
place_of (Text e) = e.place
place_of (Results e turn) = turn

abbrev pub layer_word : Layer → List ℕ
layer_word ImageLayer = codes "image"
layer_word TextLayer = codes "text"
layer_word ListLayer = codes "list"

-- the line of a fault, without its end
abbrev pub fault_text : PlayerFault → List ℕ
fault_text e =
    codes "fault " ++ (layer_word (layer_of e) ++ (codes " " ++ (decimal (number_of e) ++ (codes " " ++ decimal (place_of e)))))
