-- The laws of spreading, in reading order: what falls in a year and the words it is added to; how much an arc adds.
pub mod RaisedLaws
pub mod SizeLaws
