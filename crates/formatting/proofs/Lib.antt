mod Formats
